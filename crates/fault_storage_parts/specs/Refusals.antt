-- Refusals.
use Rattle.std.specs.Prelude.{Bool, true, false}
use Rattle.fault_storage_parts.specs.declared.error.HeaderError.{HeaderError}
use Rattle.fault_storage_parts.specs.declared.error.HeaderError.TheVariants.{Magic, LayoutNotAllowed, Short}
use Rattle.fault_storage_parts.specs.declared.error.HeaderError.TheVariants.{LayoutVersion, Checksum, BlobVersion}

-- what a creation that a crash cut short may be refused for
abbrev pub may_be_torn : HeaderError → Bool
may_be_torn Magic = true
may_be_torn LayoutNotAllowed = false
may_be_torn Short = true
may_be_torn LayoutVersion = false
may_be_torn Checksum = true
may_be_torn BlobVersion = false
