-- Whether somebody waits and was told, by the ticket.
use Rattle.std.proofs.Common.{◌≡◌, ℕ, List, Bool, true, false, ◌||◌, cond, Some, None, Option, refl, sym, ◌∙◌, ap}
use Rattle.std.specs.Prelude.{option_and_then, option_map}
use Rattle.std.specs.Map.{keys_of}
use Rattle.channel_run.specs.declared.operations.Operation.{Operation as Started}
use Rattle.channel_run.specs.declared.operations.Operation.TheVariants.{Send, Recv, Closed}
use Rattle.channel_model.specs.declared.step.Who.TheVariants.{Op, Receiver}
use Rattle.channel_model.specs.Operations.{Operation}
use Rattle.channel_run.proofs.Alike.SameNotices.{notice_of_operation, notice_shown}
use Rattle.channel_run.proofs.Tables.Entries.{operation_in-entry_at}
use Rattle.event_list.specs.Keys.{is_among}
use Rattle.event_list.specs.Waiting.{Waiting, keys, untold_keys}
use Rattle.event_list.proofs.Splits.{is_among-append}
use Rattle.channel_model.specs.declared.step.Notice.TheVariants.{Absent, Told, Untold}
use Rattle.channel_model.specs.Rosters.{notice_in}
use Rattle.channel_model.specs.View.{View}
use Rattle.channel_run.specs.RunShown.{AreHeld, closed_ticket, entry_at, notice_at, notice_by_flag, operation_shown, recv_ticket, roster_of, send_ticket, stream_ticket, ticket_at}
use Rattle.channel_run.proofs.Waiting.HeldLists.{absent-Holds, holds-refl, keyed}
use Rattle.channel_run.proofs.Waiting.KeyLists.{is_told-key, key_roster}
use Rattle.channel_run.proofs.Waiting.KeyedRosters.{notice_in-keyed}
use Rattle.channel_model.proofs.NameLists.{is_among-take}
use Rattle.channel_run.proofs.Tables.Kept.{Kept, Whole, shown_by}

-- a ticket's told flag is its name's notice
pub notice-held : {W : Type 0} (ticket_of : ℕ → Option ℕ) (names : List ℕ) (list : Waiting W)
    → AreHeld ticket_of names list → (name : ℕ) (ticket : Option ℕ) → ticket_of name ≡ ticket
    → notice_at ticket list ≡ notice_in name (roster_of ticket_of names list)
notice-held ticket_of names list each name None has =
    let roster = roster_of ticket_of names list in
    let absent = absent-Holds ticket_of names list roster (holds-refl ticket_of names list each) name has in
    sym (ap (λ told. cond told Told (cond (is_among name roster.names) Untold Absent))
    (is_among-take roster.told name roster.names absent)
    ∙ ap (λ among. cond among Untold Absent) absent)
notice-held ticket_of names list each name (Some key) has =
    let roster = roster_of ticket_of names list in
    by_mark (is_among key list.told) refl (is_among key (untold_keys list)) refl
    ∙ sym (notice_in-keyed ticket_of each.once name key has roster (key_roster list)
    (keyed ticket_of names list roster (holds-refl ticket_of names list each)))
  where
    by_mark : (told : Bool) → is_among key list.told ≡ told → (untold : Bool)
        → is_among key (untold_keys list) ≡ untold
        → notice_by_flag (cond told (Some true) (cond untold (Some false) None)) ≡ notice_in key (key_roster list)
    by_mark true e untold f = sym (ap (λ t. cond t Told (cond (is_among key (keys list)) Untold Absent))
        (is_told-key list key ∙ e))
    by_mark false e true f = sym (ap (λ t. cond t Told (cond (is_among key (keys list)) Untold Absent))
        (is_told-key list key ∙ e) ∙ ap (λ among. cond among Untold Absent)
        (is_among-append key list.told (untold_keys list) ∙ ap (λ t. t || is_among key (untold_keys list)) e ∙ f))
    by_mark false e false f = sym (ap (λ t. cond t Told (cond (is_among key (keys list)) Untold Absent))
        (is_told-key list key ∙ e) ∙ ap (λ among. cond among Untold Absent)
        (is_among-append key list.told (untold_keys list) ∙ ap (λ t. t || is_among key (untold_keys list)) e ∙ f))

-- ---- what a run shows of each who may wait

module _ {T W : Type 0} (kept : Kept T W) (whole : Whole kept) where
  abbrev pub run : View T
  run = shown_by kept

  of_operation : (op : ℕ) (found : Option (Started T)) → entry_at kept.operations op ≡ found
      → notice_shown run (Op op) ≡ notice_of_operation run.rosters op (option_map operation_shown found)
  of_operation op found e = ap (λ (o : Option (Operation T)). notice_of_operation run.rosters op o)
      (operation_in-entry_at kept.operations op ∙ ap (λ (f : Option (Started T)). option_map operation_shown f) e)

  pub notice-send : (op sender : ℕ) (message : Option T) (ticket : Option ℕ)
      → entry_at kept.operations op ≡ Some (Send sender message ticket)
      → notice_at ticket kept.core.sends ≡ notice_shown run (Op op)
  notice-send op sender message ticket e =
      notice-held (ticket_at send_ticket kept.operations)
      (keys_of kept.operations) kept.core.sends whole.each_send op ticket
      (ap (λ (f : Option (Started T)). option_and_then send_ticket f) e)
      ∙ sym (of_operation op (Some (Send sender message ticket)) e)

  pub notice-recv : (op receiver : ℕ) (ticket : Option ℕ)
      → entry_at kept.operations op ≡ Some (Recv receiver ticket)
      → notice_at ticket kept.core.receives ≡ notice_shown run (Op op)
  notice-recv op receiver ticket e =
      notice-held (ticket_at recv_ticket kept.operations)
      (keys_of kept.operations) kept.core.receives whole.each_receive op ticket
      (ap (λ (f : Option (Started T)). option_and_then recv_ticket f) e)
      ∙ sym (of_operation op (Some (Recv receiver ticket)) e)

  pub notice-closed : (op sender : ℕ) (ticket : Option ℕ)
      → entry_at kept.operations op ≡ Some (Closed sender ticket)
      → notice_at ticket kept.core.closeds ≡ notice_shown run (Op op)
  notice-closed op sender ticket e =
      notice-held (ticket_at closed_ticket kept.operations)
      (keys_of kept.operations) kept.core.closeds whole.each_closed op ticket
      (ap (λ (f : Option (Started T)). option_and_then closed_ticket f) e)
      ∙ sym (of_operation op (Some (Closed sender ticket)) e)

  pub notice-none : (op : ℕ) → entry_at kept.operations op ≡ None
      → Absent ≡ notice_shown run (Op op)
  notice-none op e = sym (of_operation op None e)

  pub notice-stream : (receiver : ℕ) (ticket : Option ℕ)
      → ticket_at stream_ticket kept.receivers receiver ≡ ticket
      → notice_at ticket kept.core.streams ≡ notice_shown run (Receiver receiver)
  notice-stream receiver ticket e = notice-held (ticket_at stream_ticket kept.receivers)
      (keys_of kept.receivers) kept.core.streams whole.each_stream receiver ticket e
