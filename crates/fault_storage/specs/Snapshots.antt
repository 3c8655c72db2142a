-- Snapshots: what is durable of a store, by which a store is made anew. It numbers its files anew, so that a value of a
-- blob that was opened before finds no file in it.
use Rattle.std.specs.Prelude.{◌≡◌, ℕ, ◌+◌, ◌^◌, ◌<◌, ◌≤◌, ◌⊎◌, Result, MatchResult, List, [], ◌∷◌, length, map}
use Rattle.fault_storage_parts.specs.declared.error.Error.{Error}
use Rattle.fault_storage_parts.specs.declared.error.Error.TheVariants.{NumberEnded, Memory}
use Rattle.fault_storage_parts.specs.Files.{durable_bytes}
use Rattle.fault_storage.specs.declared.stored.StoredFile.{StoredFile}
use Rattle.fault_storage.specs.Opens.{Name}
use Rattle.fault_storage.specs.Stores.{Store, settled_at}

-- what is durable under a name
abbrev pub Durable : Type 0
Durable = Name × List ℕ

-- a snapshot: the names of the partitions, what is durable under each name, and the next number of the store
pub record Kept : Type 0 where
  pub partitions : List (List ℕ)
  pub files : List Durable
  pub next : ℕ

-- what is durable of files, under their names
abbrev pub durable_map : List StoredFile → List Durable
durable_map files = map (λ stored. (stored.name, durable_bytes stored.file.base stored.file.log)) files

abbrev pub snapshot_of : Store → Kept
snapshot_of store = record { partitions = store.partitions; files = durable_map store.files; next = store.next }

-- a store of which all was taken: no number is given again
abbrev pub emptied : Store → Store
emptied store = record { partitions = []; files = []; order = []; next = store.next }

-- files numbered from a number on, each with what was durable as its base
abbrev pub numbered : ℕ → List Durable → List StoredFile
numbered number [] = []
numbered number (durable ∷ later) = record { name = durable.0; number = number; file = settled_at durable.1 }
    ∷ numbered (number + 1) later

-- the store that is made of a snapshot
abbrev pub store_of : Kept → Store
store_of kept = record {
  partitions = kept.partitions;
  files = numbered kept.next kept.files;
  order = [];
  next = kept.next + length kept.files;
}

-- what the making of a store of a snapshot gives, and why it is refused
abbrev pub Rebuilds : Kept → Result Store Error → Type 0
Rebuilds kept result = MatchResult result
    (λ store. (kept.next + length kept.files < 2 ^ 64) × (store ≡ store_of kept))
    (λ e. ((e ≡ NumberEnded) × (2 ^ 64 ≤ kept.next + length kept.files))
    ⊎ ((e ≡ Memory) × (kept.next + length kept.files < 2 ^ 64)))
