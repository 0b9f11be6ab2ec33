-- What contracts see of the handle of an operation.
use Rattle.async_channel.specs.declared.owned.OwnedOrRef.{OwnedOrRef}
use Rattle.async_channel.specs.declared.owned.OwnedOrRef.TheVariants.{Owned, Ref}

-- the handle of an operation, whether it is its own or borrowed
abbrev pub handle_in : {H : Type 0} → OwnedOrRef H → H
handle_in (Owned handle) = handle
handle_in (Ref handle) = handle.now
