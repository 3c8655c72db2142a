use Rattle.std.proofs.Common.{cond, ◌++◌, ◌∷◌, [], ap}
use Rattle.std.specs.Int.{w32, to_be_bytes}
use Rattle.fault_storage_parts.specs.Crc32.{crc32}
use Rattle.fault_storage.specs.Snapshots.{durable_map, snapshot_of, store_of}
use Rattle.fault_storage.specs.Stores.{changed, has_number, settled_at, with_issued}
use Rattle.fault_storage.proofs.Places.{changed-none}
use Rattle.fault_storage.proofs.Rebuilt.{durable_again, told_again, numbered_anew}
use Rattle.fault_storage.proofs.laws.snapshots_keep_what_is_durable.Goals as goal

pub returns-clause-durable : goal.returns-clause-durable
returns-clause-durable c store = durable_again store.next (durable_map store.files)

pub returns-clause-audit : goal.returns-clause-audit
returns-clause-audit c store = ap (λ l. to_be_bytes w32 (crc32 l)) (told_again store.next store.files)

pub returns-clause-gone : goal.returns-clause-gone
returns-clause-gone c store number below = numbered_anew number store.next (durable_map store.files) below

pub returns-clause-issuing : goal.returns-clause-issuing
returns-clause-issuing c store number mutation below =
    let made = store_of (snapshot_of store) in
    ap (λ b. cond b (record made {
      files = changed (has_number number) (with_issued mutation) made.files;
      order = made.order ++ number ∷ [];
    }) made)
    (numbered_anew number store.next (durable_map store.files) below)

pub returns-clause-publishing : goal.returns-clause-publishing
returns-clause-publishing c store number bytes below =
    let made = store_of (snapshot_of store) in
    ap (λ f. record made { files = f })
    (changed-none (has_number number) (λ _. settled_at bytes) made.files (numbered_anew number store.next (durable_map store.files) below))
