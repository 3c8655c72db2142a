-- The histories for which a session stands are sound.
use Rattle.std.proofs.Common.{Option, List, [], ◌∷◌, None, Some, subst}
use Rattle.std.specs.Prelude.{IfSome}
use Rattle.std.specs.List.{AllByRecursion}
use Rattle.state_ops.specs.Operation.{Operation}
use Rattle.state_ops.specs.Reading.{IsField, IsOfFields}
use Rattle.paged_blob_parts.specs.Caches.{Cache}
use Rattle.auth_store_parts.specs.History.{History, log_of}
use Rattle.auth_store_client.specs.Laws.Fields.{own_history}
use Rattle.auth_store_device.specs.Devices.{DeviceState}
use Rattle.auth_store_log.specs.Records.{Format, AreRecorded}
use Rattle.auth_store_machine.specs.Machine.{State, closed, live, failed, doubtful}
use Rattle.auth_store_machine.specs.Sound.{IsSoundIn, IsSoundState}
use Rattle.auth_store_machine.specs.Standing.{StandsFor}
use Rattle.auth_store_machine.specs.Stores.{StoreState, LiveState, IsStore, IsLive, IsWritten}

recorded_fields : (format : Format) (log : List Operation) → AreRecorded format log
    → AllByRecursion (IsOfFields (IsField format.key format.key_size) (IsField format.value format.value_size)) log
recorded_fields format [] are = tt
recorded_fields format (operation ∷ log) are = (are.0.fields, recorded_fields format log are.1)

-- what is written is sound
written_sound : (format : Format) (history : History) → IsWritten format history → IsSoundIn format history
written_sound format history is = record {
  states = is.states;
  fields = own_history (IsField format.key format.key_size) (IsField format.value format.value_size) history
      (recorded_fields format (log_of history) is.recorded);
  few = is.few;
}

-- the history of an open store is
pub open_sound : {R : Type 0} (format : Format) (store : StoreState R) (state : State) → IsStore format store
    → StandsFor format None (Some store) state → IsSoundState format state
open_sound format store (live history pruned) is stands =
    let at = stands.0 in
    let now = subst (λ (l : Option LiveState). IfSome l (IsLive format store.device.calls store.cache)) at.1 is.live in
    written_sound format history (subst (IsWritten format) at.2 now.log)
open_sound format store (failed history commit) is stands =
    (written_sound format history stands.1.written, written_sound format (commit ∷ history) stands.1.next)
open_sound format store (closed history pending) is stands = absurd stands
open_sound format store (doubtful history) is stands = absurd stands

-- so are the histories of a closed session
pub closed_sound : {R : Type 0} (format : Format) (parts : Option (DeviceState R × Cache)) (state : State)
    → StandsFor format parts None state → IsSoundState format state
closed_sound format (Some parts) (closed history None) stands = written_sound format history stands.0.written
closed_sound format (Some parts) (closed history (Some commit)) stands =
    (written_sound format history stands.0.written, written_sound format (commit ∷ history) stands.0.next)
closed_sound format (Some parts) (doubtful history) stands = written_sound format history stands.0
closed_sound format (Some parts) (live history pruned) stands = absurd stands
closed_sound format (Some parts) (failed history commit) stands = absurd stands
closed_sound format None (closed history pending) stands = absurd stands
closed_sound format None (doubtful history) stands = absurd stands
closed_sound format None (live history pruned) stands = absurd stands
closed_sound format None (failed history commit) stands = absurd stands
