use Rattle.std.proofs.Common.{Bool, true, false, not, cond, ◌++◌, ◌∷◌, []}
use Rattle.fault_storage.specs.Orders.{AreInOrder}
use Rattle.fault_storage.specs.Stores.{changed, has_number, is_there, with_issued, settled_at}
use Rattle.fault_storage.specs.Directory.{has_name, is_in, durable_in}
use Rattle.fault_storage.proofs.Ordered.{ordered_placed, ordered_filtered, ordered_changed, ordered_crashed, ordered_numbered}
use Rattle.fault_storage.proofs.laws.files_stand_in_order.Goals as goal

pub returns-clause-making : goal.returns-clause-making
returns-clause-making c store partition name bytes =
    ordered_placed (record { name = (partition, name); number = store.next; file = settled_at bytes }) store.files

pub returns-clause-removing : goal.returns-clause-removing
returns-clause-removing c store partition name = ordered_filtered (λ stored. not (has_name partition name stored)) store.files

pub returns-clause-removing_all : goal.returns-clause-removing_all
returns-clause-removing_all c store partition = ordered_filtered (λ stored. not (is_in partition stored)) store.files

pub returns-clause-admitting : goal.returns-clause-admitting
returns-clause-admitting c store partition name =
    ordered_changed (has_name partition name) (λ _. settled_at (durable_in partition name store.files)) store.files

pub returns-clause-publishing : goal.returns-clause-publishing
returns-clause-publishing c store number bytes = ordered_changed (has_number number) (λ _. settled_at bytes) store.files

pub returns-clause-issuing : goal.returns-clause-issuing
returns-clause-issuing c store number mutation order = by (is_there number store)
  where
    by : (b : Bool) → AreInOrder (cond b (record store {
      files = changed (has_number number) (with_issued mutation) store.files;
      order = store.order ++ number ∷ [];
    }) store).files
    by true = ordered_changed (has_number number) (with_issued mutation) store.files order
    by false = order

pub returns-clause-crashing : goal.returns-clause-crashing
returns-clause-crashing c store words = ordered_crashed store.files store.order words

pub returns-clause-rebuilding : goal.returns-clause-rebuilding
returns-clause-rebuilding c store = ordered_numbered store.next store.files
