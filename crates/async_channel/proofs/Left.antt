-- What is left of messages when the first of them have gone in.
use Rattle.std.proofs.Common.{◌+◌, ◌∙◌, ap, drop, List, Result, Ok, Err}
use Rattle.std.proofs.lemmas.List.{drop-drop}
use Rattle.std.specs.declared.collections.VecDeque.{VecDeque}
use Rattle.std.specs.declared.alloc.Global.{Global}
use Rattle.channel_core.specs.declared.errors.SendError.{SendError}
use Rattle.channel_core.specs.declared.errors.OutOfMemory.{OutOfMemory}
use Rattle.async_channel.specs.Operations.{IsLeftOf, MayGiveMany}

module _ {T : Type 0} where
  pub left_of_left : (left between messages : List T) → IsLeftOf left between → IsLeftOf between messages
      → IsLeftOf left messages
  left_of_left left between messages later before =
      (before.0 + later.0, later.1 ∙ ap (drop later.0) before.1 ∙ drop-drop later.0 before.0 messages)

  -- what a send of many may give later it may give at once
  pub gives_as_before : (left messages : List T) → IsLeftOf left messages
      → (given : Result (Result (Unit {0}) (SendError (VecDeque T Global))) OutOfMemory)
      → MayGiveMany left given → MayGiveMany messages given
  gives_as_before left messages before (Err refusal) gives = tt
  gives_as_before left messages before (Ok (Ok sent)) gives = tt
  gives_as_before left messages before (Ok (Err error)) gives =
      left_of_left error.0.items left messages gives before
