-- The device that a script begins with: nothing is in its store, and nothing fails.
use Rattle.std.specs.Prelude.{◌≡◌, None, true, [], ◌∷◌}
use Rattle.fault_storage_parts.specs.declared.config.Config.{Config}
use Rattle.fault_storage_parts.specs.Draws.{Rate, subset, never}
use Rattle.fault_storage_parts.specs.DrawsCode.{rate_of, mode_of}
use Rattle.fault_storage.specs.Stores.{Store}
use Rattle.paged_blob_parts.specs.Calls.{synced}
use Rattle.auth_store_device.specs.Devices.{DeviceState}

-- one word of two
abbrev pub half : Rate
half = record { numerator = 1; denominator = 2 }

-- nothing fails; of what is not durable a crash keeps each byte of a write, and each resize, one time in two
pub record AreFirst (config : Config) : Type 0 where
  pub opening : rate_of config.open ≡ never
  pub reading : rate_of config.read ≡ never
  pub writing : rate_of config.write.rate ≡ never
  pub kept_of_writes : rate_of config.write.retention ≡ half
  pub torn : mode_of config.write.mode ≡ subset
  pub syncing : rate_of config.sync ≡ never
  pub resizing : rate_of config.resize.rate ≡ never
  pub kept_of_resizes : rate_of config.resize.retention ≡ half
  pub removing : rate_of config.remove ≡ never
  pub scanning : rate_of config.scan ≡ never

-- a store that has no file yet
abbrev pub no_files : Store
no_files = record { partitions = []; files = []; order = []; next = 0 }

-- a device over such a store, with these words and first settings, of which nothing was called yet
pub record IsNew {R : Type 0} (rng : R) (device : DeviceState R) : Type 0 where
  pub files : device.storage.inner ≡ no_files
  pub words : device.storage.rng ≡ rng
  pub settings : AreFirst device.storage.config
  pub injections : device.storage.injections ≡ 0
  pub closed : device.log ≡ None
  pub calls : device.calls ≡ synced [] true ∷ []
  pub lasts : device.left ≡ None
  pub refused : device.refused ≡ 0
