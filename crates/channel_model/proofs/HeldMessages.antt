-- What is held after a step, by what was held before it.
use Rattle.std.proofs.Common.{◌≡◌, List, [], ◌∷◌, ◌++◌, Some, None, Option, refl, sym, ◌∙◌, ap, length, drop, append_assoc}
use Rattle.std.proofs.Math.Seq.{drop-append_seam}
use Rattle.std.proofs.lemmas.List.{drop-drop}
use Rattle.channel_model.specs.declared.step.Kind.{Kind}
use Rattle.channel_model.specs.declared.step.Step.{Step}
use Rattle.channel_model.specs.declared.step.Reply.{Reply}
use Rattle.channel_model.specs.Past.{Past}
use Rattle.channel_model.specs.Messages.{accepted_by, accepted_messages, held_messages, taken_by, taken_messages, with_last}
use Rattle.channel_model.specs.Legal.{IsLegal}
use Rattle.channel_model.specs.Operations.{live_operations}
use Rattle.channel_model.proofs.Conserved.{accepted_messages-IsLegal, count_of, length-with_last}

with_last-append : {T : Type 0} (front rest : List T) (found : Option T)
    → with_last (front ++ rest) found ≡ front ++ with_last rest found
with_last-append front rest None = refl
with_last-append front rest (Some message) = append_assoc front rest (message ∷ [])

-- What is held after a pair: with the accepted one last, and without the first if one was taken.
pub held_messages-after : {T : Type 0} (kind : Kind) (past : Past T) (step : Step T) (reply : Reply T)
    → IsLegal kind past
    → held_messages ((step, reply) ∷ past) ≡ drop (count_of (taken_by reply))
    (with_last (held_messages past) (accepted_by (live_operations past) step reply))
held_messages-after {T} kind past step reply legal =
    ap (λ count. drop count (with_last (accepted_messages past) (accepted_by (live_operations past) step reply)))
    (length-with_last (taken_messages past) (taken_by reply))
    ∙ sym (drop-drop (count_of (taken_by reply)) (length (taken_messages past))
    (with_last (accepted_messages past) (accepted_by (live_operations past) step reply)))
    ∙ ap (λ (messages : List T). drop (count_of (taken_by reply)) (drop (length (taken_messages past)) messages))
    (ap (λ (messages : List T). with_last messages (accepted_by (live_operations past) step reply))
    (accepted_messages-IsLegal kind past legal)
    ∙ with_last-append (taken_messages past) (held_messages past) (accepted_by (live_operations past) step reply))
    ∙ ap (λ (messages : List T). drop (count_of (taken_by reply)) messages)
    (drop-append_seam (taken_messages past) (with_last (held_messages past) (accepted_by (live_operations past) step reply)))
