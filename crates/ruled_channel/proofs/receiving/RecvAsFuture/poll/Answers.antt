use Rattle.std.proofs.Common.{rules, ◌≡◌, Some}
use Rattle.ruled_channel.specs.Passes.{IsPassOf, IsSamePass, view}
use Rattle.ruled_channel.proofs.Same.{may_poll_again}
use Rattle.ruled_channel.proofs.receiving.RecvAsFuture.poll.Goals as goal

pub returns-in-Ok-Pending-clause-again : goal.returns-in-Ok-Pending-clause-again
returns-in-Ok-Pending-clause-again g c = let pass = c.in-Some.pass in let now = c.recv_or_wait_as.new.pass in
    let was : c.args.self.now.pass ≡ Some pass = search rules in
    let own : IsPassOf c.args.self.now.channel.now now = search rules in
    let same : IsSamePass pass now = search rules in
    let seen : view now ≡ view pass = search rules in
    may_poll_again g.P.Protocol.holds g.M.Received.then g.E.AtEnd.then c.args.self.now.channel.now c.args.self.now.pass pass now was own same seen c.requires
