-- The settings that nothing was said of.
use Rattle.std.specs.Prelude.{◌≡◌}
use Rattle.fault_storage_parts.specs.declared.config.Config.{Config}
use Rattle.fault_storage_parts.specs.Draws.{prefix, never}
use Rattle.fault_storage_parts.specs.DrawsCode.{rate_of, mode_of}

-- nothing fails, and of what is not durable a crash keeps at most a beginning of each write
pub record IsDefault (config : Config) : Type 0 where
  pub opening : rate_of config.open ≡ never
  pub reading : rate_of config.read ≡ never
  pub writing : rate_of config.write.rate ≡ never
  pub kept_of_writes : rate_of config.write.retention ≡ never
  pub torn : mode_of config.write.mode ≡ prefix
  pub syncing : rate_of config.sync ≡ never
  pub resizing : rate_of config.resize.rate ≡ never
  pub kept_of_resizes : rate_of config.resize.retention ≡ never
  pub removing : rate_of config.remove ≡ never
  pub scanning : rate_of config.scan ≡ never
