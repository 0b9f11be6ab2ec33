-- What holds between the polls of a settling whose rows are added.
use Rattle.std.proofs.Common.{◌≡◌, ℕ, ◌+◌, List, [], ◌∷◌, ◌++◌, ◌≤◌, map, drop, Bool, true, false, None, Some, Option, Ok, length, cond, codes, refl, sym, ◌∙◌, ap, append_assoc, subst, arith}
use Rattle.std.proofs.lemmas.List.{append-nil, drop_more, length-append}
use Rattle.std.specs.Fmt.{decimal}
use Rattle.std.proofs.lemmas.Option.{get_or_from_slice_get, slice_get_within}
use Rattle.std.specs.List.{flat_map, list_any, slice_get}
use Rattle.channel_model.specs.declared.step.Kind.{Kind}
use Rattle.channel_model.specs.declared.step.Reply.{Reply}
use Rattle.channel_model.specs.declared.step.Who.{Who}
use Rattle.channel_model.specs.declared.step.Who.TheVariants.{Op, Receiver}
use Rattle.channel_model.specs.Messages.{with_last}
use Rattle.channel_model.specs.Past.{Past}
use Rattle.channel_model.specs.Legal.{IsLegal}
use Rattle.channel_model.specs.Polling.{IsSettling, finished_by, finished_polls, poll_of, settling_polls}
use Rattle.channel_model.specs.Replies.{is_pending}
use Rattle.channel_model.specs.View.{View}
use Rattle.channel_model.proofs.Settling.{settling_polls-IsSettling}
use Rattle.channel_run.specs.Runs.{PollsFirst}
use Rattle.channel_run.specs.StandsFor.{StandsFor}
use Rattle.chanrun.specs.declared.grammar.command.Command.{Command}
use Rattle.chanrun.specs.declared.parse.lines.Line.{Line as LineSaid}
use Rattle.chanrun.specs.declared.parse.lines.Script.{Script}
use Rattle.chanrun.specs.Parsed.{IsParsed}
use Rattle.chanrun.specs.Script.{as_line, past_after_command}
use Rattle.chanrun.specs.Texts.{reply_text, who_text}
use Rattle.chanrun.specs.Trace.{command_polls, command_reply, is_same, line_rows, polled_by, polled_line, polls_rows, row, rows_after, settled_reply, trace_by, trace_text, with_new}

-- These polls were made after the past: this is their number, so many were ready, and their rows
-- stand behind what stood before.
pub record PolledSoFar (kind : Kind) (past : Past ℕ) (names : List Who) (before : List ℕ)
    (count ready : ℕ) (rows : List ℕ) (run : View ℕ) : Type 0 where
  pub polls : Past ℕ
  pub settling : IsSettling kind past polls
  pub counted : count ≡ length polls
  pub finished : ready ≡ length (finished_polls polls)
  pub written : rows ≡ before ++ polls_rows names polls past
  pub stands : StandsFor kind (polls ++ past) run

pub none_polled : (kind : Kind) (past : Past ℕ) (names : List Who) (before : List ℕ) (run : View ℕ)
    → StandsFor kind past run → PolledSoFar kind past names before 0 0 before run
none_polled kind past names before run stands = record {
  polls = [];
  settling = tt;
  counted = refl;
  finished = refl;
  written = sym (append-nil before);
  stands = stands;
}

-- how many were ready, with one more reply
abbrev pub with_ready : ℕ → Bool → ℕ
with_ready ready pending = cond pending ready (ready + 1)

pub few_more : (pending : Bool) (ready more count : ℕ) → more ≡ with_ready ready pending → ready ≤ count
    → more ≤ count + 1
few_more true ready more count is few = omega (arith, is)
few_more false ready more count is few = omega (arith, is)

ready_more : (finished : List (Who × Reply ℕ)) (who : Who) (reply : Reply ℕ)
    → with_ready (length finished) (is_pending reply) ≡ length (with_last finished (finished_by (poll_of who) reply))
ready_more finished (Op op) reply = go (is_pending reply)
  where
    go : (pending : Bool) → with_ready (length finished) pending
        ≡ length (with_last finished (cond pending None (Some (Op op, reply))))
    go true = refl
    go false = sym (length-append finished ((Op op, reply) ∷ []))
ready_more finished (Receiver receiver) reply = go (is_pending reply)
  where
    go : (pending : Bool) → with_ready (length finished) pending
        ≡ length (with_last finished (cond pending None (Some (Receiver receiver, reply))))
    go true = refl
    go false = sym (length-append finished ((Receiver receiver, reply) ∷ []))

polled-line : (who : Who) → polled_line (poll_of who) ≡ codes "polled " ++ who_text who
polled-line (Op op) = refl
polled-line (Receiver receiver) = refl

-- One more poll, whose row stands behind the others now.
pub one_more_polled : (kind : Kind) (past : Past ℕ) (names : List Who) (before : List ℕ) (count ready more : ℕ)
    (rows rows' : List ℕ) (run after : View ℕ) (found : Option (Who × Reply ℕ)) (who : Who) (reply : Reply ℕ)
    (line said text : List ℕ)
    → (so : PolledSoFar kind past names before count ready rows run)
    → found ≡ Some (who, reply)
    → PollsFirst kind (so.polls ++ past) found after
    → more ≡ with_ready ready (is_pending reply)
    → line ≡ codes "polled " ++ who_text who
    → said ≡ reply_text reply
    → ((past : Past ℕ) → StandsFor kind past after → text ≡ row names line said past)
    → rows' ≡ rows ++ text
    → PolledSoFar kind past names before (count + 1) more rows' after
one_more_polled kind past names before count ready more rows rows' run after found who reply line said text so is first ready_is line_is said_is text_is rows_is =
    go (subst (λ (found : Option (Who × Reply ℕ)). PollsFirst kind (so.polls ++ past) found after) is first)
  where
    go : PollsFirst kind (so.polls ++ past) (Some (who, reply)) after
        → PolledSoFar kind past names before (count + 1) more rows' after
    go first = record {
      polls = (poll_of who, reply) ∷ so.polls;
      settling = (so.settling, first.0, first.1);
      counted = (let counted = so.counted in omega (arith, counted));
      finished = ready_is ∙ (ap (λ n. with_ready n (is_pending reply)) so.finished ∙ ready_more (finished_polls so.polls) who reply);
      written = rows_is ∙ (ap (λ bytes. bytes ++ text) so.written
          ∙ (append_assoc before (polls_rows names so.polls past) text
          ∙ ap (λ bytes. before ++ (polls_rows names so.polls past ++ bytes)) (text_is ((poll_of who, reply) ∷ (so.polls ++ past)) first.2
          ∙ (ap (λ line. row names line said ((poll_of who, reply) ∷ (so.polls ++ past))) (line_is ∙ sym (polled-line who))
          ∙ ap (λ said. row names (polled_line (poll_of who)) said ((poll_of who, reply) ∷ (so.polls ++ past))) said_is))));
      stands = first.2;
    }

-- Nobody is told any more, and this is what settling says.
pub all_polled : (kind : Kind) (past : Past ℕ) (names : List Who) (before : List ℕ) (count ready : ℕ)
    (rows : List ℕ) (run after : View ℕ) (found : Option (Who × Reply ℕ)) (text : List ℕ)
    → IsLegal kind past
    → (so : PolledSoFar kind past names before count ready rows run)
    → found ≡ None
    → PollsFirst kind (so.polls ++ past) found after
    → text ≡ codes "settled " ++ (decimal count ++ (codes " " ++ decimal ready))
    → (text ≡ settled_reply (settling_polls kind past))
    × (rows ≡ before ++ polls_rows names (settling_polls kind past) past)
    × StandsFor kind (settling_polls kind past ++ past) after
all_polled kind past names before count ready rows run after found text legal so is first text_is =
    go (subst (λ (found : Option (Who × Reply ℕ)). PollsFirst kind (so.polls ++ past) found after) is first)
  where
    go : PollsFirst kind (so.polls ++ past) None after
        → (text ≡ settled_reply (settling_polls kind past))
        × (rows ≡ before ++ polls_rows names (settling_polls kind past) past)
        × StandsFor kind (settling_polls kind past ++ past) after
    go first =
        subst (λ (polls : Past ℕ). (text ≡ settled_reply polls) × (rows ≡ before ++ polls_rows names polls past)
        × StandsFor kind (polls ++ past) after)
        (sym (settling_polls-IsSettling kind past so.polls legal so.settling first.0)) (
          text_is ∙ (ap (λ n. codes "settled " ++ (decimal n ++ (codes " " ++ decimal ready))) so.counted
              ∙ ap (λ n. codes "settled " ++ (decimal (length so.polls) ++ (codes " " ++ decimal n))) so.finished),
          so.written,
          first.1,
        )

-- ---- one more of a list

-- who is among those polled already isn't added
pub nobody_new : (names : List Who) (given : Option Who) (who : Who) → given ≡ Some who
    → list_any (λ name. is_same name who) names ≡ true → names ≡ with_new names given
nobody_new names given who is found =
    subst (λ (given : Option Who). names ≡ with_new names given) (sym is)
    (go (list_any (λ name. is_same name who) names) found)
  where
    go : (b : Bool) → b ≡ true → names ≡ cond b names (names ++ who ∷ [])
    go true e = refl
    go false e = cc

-- the text of a list with the word of its next item behind what is there
pub word_at : {X : Type 0} (word_of : X → List ℕ) (items : List X) (index : ℕ) (item : X)
    (text text' word whole : List ℕ) → slice_get items index ≡ Some item → text' ≡ text ++ word → word ≡ word_of item
    → text ++ flat_map word_of (drop index items) ≡ whole
    → text' ++ flat_map word_of (drop (index + 1) items) ≡ whole
word_at {X} word_of items index item text text' word whole found longer is so =
    ap (λ bytes. bytes ++ flat_map word_of (drop (index + 1) items)) longer
    ∙ (append_assoc text word (flat_map word_of (drop (index + 1) items))
    ∙ (ap (λ bytes. text ++ (bytes ++ flat_map word_of (drop (index + 1) items))) is
    ∙ (ap (λ (rest : List X). text ++ flat_map word_of rest) (sym next) ∙ so)))
  where
    next : drop index items ≡ item ∷ drop (index + 1) items
    next = drop_more items index item (slice_get_within items index item found)
        ∙ ap (λ (first : X). first ∷ drop (index + 1) items) (get_or_from_slice_get items index item item found)

-- the rows of a line: those of its polls, and then its own
pub line_done : (names : List Who) (kind : Kind) (past : Past ℕ) (line : List ℕ) (command : Command)
    (rows0 rows1 rows2 text said reply : List ℕ)
    → reply ≡ command_reply kind past command
    → rows1 ≡ rows0 ++ polls_rows names (command_polls kind past command) past
    → said ≡ reply
    → text ≡ row names line said (past_after_command kind past command)
    → rows2 ≡ rows1 ++ text
    → rows2 ≡ rows0 ++ line_rows names kind past (line, command)
line_done names kind past line command rows0 rows1 rows2 text said reply reply_is rows1_is said_is text_is rows2_is =
    rows2_is ∙ (ap (λ rows. rows ++ text) rows1_is
    ∙ (append_assoc rows0 (polls_rows names (command_polls kind past command) past) text
    ∙ ap (λ bytes. rows0 ++ (polls_rows names (command_polls kind past command) past ++ bytes))
    (text_is ∙ ap (λ said. row names line said (past_after_command kind past command)) (said_is ∙ reply_is))))

commands_said : (lines : List LineSaid)
    → map (λ (line : List ℕ × Command). line.1) (map (λ (line : LineSaid). (line.text.now, line.command)) lines)
    ≡ map (λ (line : LineSaid). line.command) lines
commands_said [] = refl
commands_said (line ∷ lines) = ap (λ commands. line.command ∷ commands) (commands_said lines)

-- the trace of a script is that of its bytes
pub trace_said : (input : List ℕ) (script : Script) (text : List ℕ) → IsParsed input (Ok script)
    → text ≡ as_line script.first.now
    ++ rows_after (polled_by [] (map (λ line. line.command) script.lines.items))
    script.kind [] (map (λ line. (line.text.now, line.command)) script.lines.items)
    → text ≡ trace_text input
trace_said input script text parsed is =
    is ∙ (ap (λ commands. as_line script.first.now ++ rows_after (polled_by [] commands)
    script.kind [] (map (λ line. (line.text.now, line.command)) script.lines.items)) (sym (commands_said script.lines.items))
    ∙ ap trace_by (sym parsed.2))
