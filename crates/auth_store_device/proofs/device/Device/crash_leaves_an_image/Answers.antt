use Rattle.std.proofs.Common.{List, ℕ, [], subst}
use Rattle.fault_storage_parts.specs.Files.{IsLeftOf}
use Rattle.paged_blob_parts.specs.Calls.{file_of}
use Rattle.paged_blob_parts.specs.Images.{IsImage}
use Rattle.paged_blob_parts.proofs.Live.{reached_image}
use Rattle.auth_store_device.specs.Devices.{DeviceState}
use Rattle.auth_store_device.specs.Logs.{log_of, behind_header}
use Rattle.auth_store_device.proofs.device.Device.crash_leaves_an_image.Goals as goal

pub returns : goal.returns
returns g c =
    let P : DeviceState g.row.R.Denot → Type 0 = λ s. (left : List ℕ) → IsLeftOf (log_of s.storage.inner).base (log_of s.storage.inner).log left []
    → IsImage (file_of s.calls) (behind_header left) in
    subst P c.self.view_is (λ left is. reached_image _ (behind_header left) (c.self.invariant.stands.each left is))
