-- A mutation, as the change that it is.
use Rattle.std.specs.Prelude.{false}
use Rattle.paged_blob_parts.specs.Calls.{Change, write, resize}
use Rattle.auth_store_device.specs.declared.openings.Mutation.{Mutation}
use Rattle.auth_store_device.specs.declared.openings.Mutation.TheVariants.{Write, Resize}

-- it is not said whether it was durable at once
abbrev pub change_of : Mutation → Change
change_of (Write offset bytes) = write offset bytes.now false
change_of (Resize length_asked) = resize length_asked
