-- What is rung at a bell that keeps a log stands behind what was there.
use Rattle.std.proofs.Common.{◌≡◌, sym, ap, ◌∙◌, List, [], ◌∷◌, ◌++◌, Result, Ok, Err}
use Rattle.std.proofs.lemmas.List.{append_assoc, append-nil}
use Rattle.event_list.specs.Waiting.{RingsEach}
use Rattle.futures.specs.declared.task.Poll.{Poll}
use Rattle.futures.specs.declared.task.Poll.TheVariants.{Ready, Pending}
use Rattle.channel_core.specs.Tables.{OnReady}

-- the log from before, and then what is rung
abbrev pub Logs : {W : Type 0} → List W → W → List W → Type 0
Logs earlier payload later = later ≡ earlier ++ payload ∷ []

pub logs : {W : Type 0} (before payloads after : List W) → RingsEach Logs before payloads after
    → after ≡ before ++ payloads
logs before [] after rung = rung ∙ sym (append-nil before)
logs {W} before (payload ∷ rest) after rung =
    logs rung.0 rest after rung.2 ∙ ap (λ (log : List W). log ++ rest) rung.1
    ∙ append_assoc before (payload ∷ []) rest

pub logs_if_ready : {A E W : Type 0} (result : Result (Poll A) E) (before payloads after : List W)
    → OnReady result (RingsEach Logs before payloads after) → OnReady result (after ≡ before ++ payloads)
logs_if_ready (Ok (Ready answer)) before payloads after rung = logs before payloads after rung
logs_if_ready (Ok Pending) before payloads after rung = tt
logs_if_ready (Err error) before payloads after rung = tt
