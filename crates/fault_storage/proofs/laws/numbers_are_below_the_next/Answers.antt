use Rattle.std.proofs.Common.{◌+◌, ◌∷◌, ◌++◌, [], Bool, true, false, not, cond, length, arith}
use Rattle.fault_storage.specs.Orders.{KeepsNumbers}
use Rattle.fault_storage.specs.Stores.{changed, has_number, is_there, with_issued, settled_at}
use Rattle.fault_storage.specs.Directory.{has_name, is_in, durable_in}
use Rattle.fault_storage.specs.Snapshots.{durable_map}
use Rattle.fault_storage.proofs.Numbered.{below_more, below_put, below_filtered, below_changed, below_crashed, below_numbered, opened_below}
use Rattle.fault_storage.proofs.laws.numbers_are_below_the_next.Goals as goal

pub returns-clause-opening : goal.returns-clause-opening
returns-clause-opening c = opened_below

pub returns-clause-making : goal.returns-clause-making
returns-clause-making c store partition name bytes = record {
  files = λ below. below_put (record { name = (partition, name); number = store.next; file = settled_at bytes }) (store.next + 1) _ (omega arith)
      (below_more store.next (store.next + 1) _ (omega arith)
      (below_filtered (λ stored. not (has_name partition name stored)) store.next store.files below));
  handles = λ number given. omega (arith, given);
}

pub returns-clause-removing : goal.returns-clause-removing
returns-clause-removing c store partition name = record {
  files = below_filtered (λ stored. not (has_name partition name stored)) store.next store.files;
  handles = λ number given. given;
}

pub returns-clause-removing_all : goal.returns-clause-removing_all
returns-clause-removing_all c store partition = record {
  files = below_filtered (λ stored. not (is_in partition stored)) store.next store.files;
  handles = λ number given. given;
}

pub returns-clause-admitting : goal.returns-clause-admitting
returns-clause-admitting c store partition name = record {
  files = below_changed (has_name partition name) (λ _. settled_at (durable_in partition name store.files)) store.next store.files;
  handles = λ number given. given;
}

pub returns-clause-publishing : goal.returns-clause-publishing
returns-clause-publishing c store number bytes = record {
  files = below_changed (has_number number) (λ _. settled_at bytes) store.next store.files;
  handles = λ number given. given;
}

pub returns-clause-issuing : goal.returns-clause-issuing
returns-clause-issuing c store number mutation = by (is_there number store)
  where
    by : (b : Bool) → KeepsNumbers store (cond b (record store {
      files = changed (has_number number) (with_issued mutation) store.files;
      order = store.order ++ number ∷ [];
    }) store)
    by true = record {
      files = below_changed (has_number number) (with_issued mutation) store.next store.files;
      handles = λ number given. given;
    }
    by false = record { files = λ below. below; handles = λ number given. given }

pub returns-clause-crashing : goal.returns-clause-crashing
returns-clause-crashing c store words = record {
  files = below_crashed store.next store.files store.order words;
  handles = λ number given. given;
}

pub returns-clause-rebuilding : goal.returns-clause-rebuilding
returns-clause-rebuilding c store = record {
  files = λ _. below_numbered store.next (store.next + length (durable_map store.files)) (durable_map store.files) (omega arith);
  handles = λ number given. omega (arith, given);
}
