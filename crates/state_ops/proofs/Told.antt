-- The ordered operation that is read, where the reader tells an update by its bytes: it is the one whose update is told by its fields.
use Rattle.std.proofs.Common.{◌≡◌, ◌==◌, ◌+◌, ◌-◌, ℕ, Bool, true, false, cond, ltb, List, [], ◌∷◌, ◌++◌, length, take}
use Rattle.std.proofs.Common.{drop, Option, option_map, Result, Ok, Err, refl, sym, ◌∙◌, ap}
use Rattle.std.specs.Prelude.{IfOk}
use Rattle.merkle_forest.specs.declared.codec.error.Error.{Error}
use Rattle.merkle_forest.specs.declared.codec.error.Error.TheVariants.{EndOfBuffer, InvalidEnum}
use Rattle.merkle_forest.specs.Codec.{Outcome, ◌>>=◌}
use Rattle.merkle_forest.specs.Laws.Codec.{refuses_as}
use Rattle.state_ops_parts.specs.Operation as all
use Rattle.state_ops_parts.specs.Operation.{IsValue}
use Rattle.state_ops_parts.specs.declared.operation.Operation.TheVariants.{Delete, Update, CommitFloor}
use Rattle.state_ops_parts.specs.declared.update.ordered.Ordered as code_update
use Rattle.state_ops_parts.specs.Grammar.{Found, ReadsAs, item_at, told, after_zeros, with_zeros, commit_at}
use Rattle.state_ops_parts.specs.Grammar.{operation_at, padded_at, unpadded_at, fixed_at, fixed_metadata_at}
use Rattle.state_ops_parts.specs.Grammar.{fixed_floor_at, after_ordered}
use Rattle.state_ops.specs.Operation.{ordered, Code, Operation, delete, update, commit_floor, fixed_encoding, meaning_of}
use Rattle.state_ops.specs.Reading as reading
use Rattle.state_ops.specs.Reading.{ordered_at, IsField, HasEncoding}
use Rattle.state_ops.specs.Laws.Again.{read_again}

-- an operation but for what its update says
abbrev shape : {U : Type 0} → all.Operation U → all.Operation (Unit {0})
shape (delete k) = delete k
shape (update u) = update tt
shape (commit_floor metadata floor) = commit_floor metadata floor

abbrev plain : {U : Type 0} → Found (all.Operation U) → Found (all.Operation (Unit {0}))
plain found = told shape found

-- the bytes up to the rest
abbrev cut : List ℕ → List ℕ → Found (List ℕ)
cut bytes rest = Ok (take (length bytes - length rest) bytes, rest)

abbrev bare : {U : Type 0} → Found U → Found (Unit {0})
bare found = told (λ _. tt) found

module _ (U V : Type 0) where
  deletes : (x : Found (List ℕ)) → plain {U = U} (told delete x) ≡ plain {U = V} (told delete x)
  deletes (Ok a) = refl
  deletes (Err e) = refl

  floors : (metadata : Option (List ℕ)) (x : Found ℕ)
      → plain {U = U} (told (commit_floor metadata) x) ≡ plain {U = V} (told (commit_floor metadata) x)
  floors metadata (Ok a) = refl
  floors metadata (Err e) = refl

  commits : (number : List ℕ → Found ℕ) (x : Found (Option (List ℕ)))
      → plain {U = U} (x >>= λ a. told (commit_floor a.0) (number a.1)) ≡ plain {U = V} (x >>= λ a. told (commit_floor a.0) (number a.1))
  commits number (Ok a) = floors a.0 (number a.1)
  commits number (Err e) = refl

update_told : {U : Type 0} (x : Found U) → plain (told update x) ≡ told update (bare x)
update_told (Ok a) = refl
update_told (Err e) = refl

zeros_told : {U : Type 0} (a : all.Operation U) (r : Outcome)
    → plain (r >>= λ rest. Ok (a, rest)) ≡ (r >>= λ rest. Ok (shape a, rest))
zeros_told a (Ok rest) = refl
zeros_told a (Err e) = refl

padding_told : {U : Type 0} (x : Found (all.Operation U)) → plain (x >>= with_zeros) ≡ (plain x >>= with_zeros)
padding_told (Ok a) = zeros_told a.0 (after_zeros a.1)
padding_told (Err e) = refl

rest_told : {U : Type 0} (rest : List ℕ) (x : Found (all.Operation U))
    → plain (x >>= λ a. Ok (a.0, rest)) ≡ (plain x >>= λ a. Ok (a.0, rest))
rest_told rest (Ok a) = refl
rest_told rest (Err e) = refl

-- grammars of updates that end alike make grammars of operations that end alike
module _ {U V : Type 0} (key value : List ℕ → Outcome) (f : List ℕ → Found U) (g : List ℕ → Found V)
    (alike : (bytes : List ℕ) → bare (f bytes) ≡ bare (g bytes)) where
  updates_alike : (bytes : List ℕ) → plain (told update (f bytes)) ≡ plain (told update (g bytes))
  updates_alike bytes = update_told (f bytes) ∙ (ap (told update) (alike bytes) ∙ sym (update_told (g bytes)))

  module _ (metadata : List ℕ → Found (Option (List ℕ))) (number : List ℕ → Found ℕ) where
    tag_alike : (tag : ℕ) (bytes : List ℕ) (one two three : Bool)
        → plain (cond one (told delete (item_at key bytes)) (cond two (told update (f bytes)) (cond three
        (commit_at {U = U} metadata number bytes) (Err (InvalidEnum tag)))))
        ≡ plain (cond one (told delete (item_at key bytes)) (cond two (told update (g bytes)) (cond three
        (commit_at {U = V} metadata number bytes) (Err (InvalidEnum tag)))))
    tag_alike tag bytes true two three = deletes U V (item_at key bytes)
    tag_alike tag bytes false true three = updates_alike bytes
    tag_alike tag bytes false false true = commits U V number (metadata bytes)
    tag_alike tag bytes false false false = refl

    operations_alike : (bytes : List ℕ)
        → plain (operation_at key f (commit_at metadata number) bytes) ≡ plain (operation_at key g (commit_at metadata number) bytes)
    operations_alike [] = refl
    operations_alike (tag ∷ bytes) = tag_alike tag bytes (tag == 0xD1) (tag == 0xD2) (tag == 0xD3)

  padded_alike : (size : ℕ) (bytes : List ℕ) → plain (padded_at key value f size bytes) ≡ plain (padded_at key value g size bytes)
  padded_alike size bytes =
      padding_told (unpadded_at key value f size bytes)
      ∙ (ap (λ x. x >>= with_zeros) (operations_alike (fixed_metadata_at value size) fixed_floor_at bytes)
      ∙ sym (padding_told (unpadded_at key value g size bytes)))

  fixed_alike : (ks vs us : ℕ) (bytes : List ℕ) → plain (fixed_at key value f ks vs us bytes) ≡ plain (fixed_at key value g ks vs us bytes)
  fixed_alike ks vs us bytes = by (ltb (length bytes) size)
    where
      size : ℕ
      size = all.fixed_size ks vs us

      by : (short : Bool)
          → plain (cond short (Err EndOfBuffer) (padded_at key value f vs (take size bytes) >>= λ x. Ok (x.0, drop size bytes)))
          ≡ plain (cond short (Err EndOfBuffer) (padded_at key value g vs (take size bytes) >>= λ x. Ok (x.0, drop size bytes)))
      by true = refl
      by false =
          rest_told (drop size bytes) (padded_at key value f vs (take size bytes))
          ∙ (ap (λ x. x >>= λ a. Ok (a.0, drop size bytes)) (padded_alike vs (take size bytes))
          ∙ sym (rest_told (drop size bytes) (padded_at key value g vs (take size bytes))))

-- an update told by its bytes ends where one told by its fields does
module _ (key value : List ℕ → Outcome) where
  third : (bytes more : List ℕ) (k v : List ℕ) (c : Outcome) → bare (c >>= cut bytes) ≡ bare (told (ordered k v) (c >>= cut more))
  third bytes more k v (Ok rest) = refl
  third bytes more k v (Err e) = refl

  second : (bytes more : List ℕ) (k : List ℕ) (b : Outcome)
      → bare ((b >>= key) >>= cut bytes) ≡ bare ((b >>= cut more) >>= λ v. told (ordered k v.0) (item_at key v.1))
  second bytes more k (Ok rest) = third bytes rest k (take (length more - length rest) more) (key rest)
  second bytes more k (Err e) = refl

  first : (bytes : List ℕ) (a : Outcome)
      → bare (((a >>= value) >>= key) >>= cut bytes)
      ≡ bare ((a >>= cut bytes) >>= λ k. item_at value k.1 >>= λ v. told (ordered k.0 v.0) (item_at key v.1))
  first bytes (Ok rest) = second bytes rest (take (length bytes - length rest) bytes) (value rest)
  first bytes (Err e) = refl

  ordered_alike : (bytes : List ℕ) → bare (item_at (after_ordered key value) bytes) ≡ bare (ordered_at key value bytes)
  ordered_alike bytes = first bytes (key bytes)

-- what is found is known by its shape, but for an update
abbrev Same : all.Operation (Unit {0}) → all.Operation (Unit {0}) → Type 0
Same one other = ◌≡◌ {A = all.Operation (Unit {0})} one other

parts : (one other : all.Operation (Unit {0})) (rest more : List ℕ)
    → ◌≡◌ {A = Found (all.Operation (Unit {0}))} (Ok (one, rest)) (Ok (other, more)) → Same one other × (rest ≡ more)
parts one other rest more same =
    let pairs : ◌≡◌ {A = all.Operation (Unit {0}) × List ℕ} (one, rest) (other, more) = cc in
    (ap (λ (x : all.Operation (Unit {0}) × List ℕ). x.0) pairs, ap (λ (x : all.Operation (Unit {0}) × List ℕ). x.1) pairs)

from_fault : {U : Type 0} (x : Found (all.Operation U)) (e : Error) → plain x ≡ Err e → x ≡ Err e
from_fault (Ok a) e is = absurd (cc)
from_fault (Err f) e is = cc

from_delete : (x : Found Operation) (k new : List ℕ) → plain x ≡ Ok (delete k, new) → x ≡ Ok (delete k, new)
from_delete (Ok (delete l, rest)) k new is =
    let both = parts (delete l) (delete k) rest new is in
    let one : Same (delete l) (delete k) = both.0 in
    let key : l ≡ k = cc in
    ap (λ (x : List ℕ). Ok (delete x, rest)) key ∙ ap (λ (r : List ℕ). Ok (delete k, r)) both.1
from_delete (Ok (update u, rest)) k new is =
    let one : Same (update tt) (delete k) = (parts (update tt) (delete k) rest new is).0 in absurd (cc)
from_delete (Ok (commit_floor m n, rest)) k new is =
    let one : Same (commit_floor m n) (delete k) = (parts (commit_floor m n) (delete k) rest new is).0 in absurd (cc)
from_delete (Err e) k new is = absurd (cc)

from_commit : (x : Found Operation) (metadata : Option (List ℕ)) (floor : ℕ) (new : List ℕ)
    → plain x ≡ Ok (commit_floor metadata floor, new) → x ≡ Ok (commit_floor metadata floor, new)
from_commit (Ok (delete l, rest)) metadata floor new is =
    let one : Same (delete l) (commit_floor metadata floor) = (parts (delete l) (commit_floor metadata floor) rest new is).0 in
    absurd (cc)
from_commit (Ok (update u, rest)) metadata floor new is =
    let one : Same (update tt) (commit_floor metadata floor) = (parts (update tt) (commit_floor metadata floor) rest new is).0 in
    absurd (cc)
from_commit (Ok (commit_floor m n, rest)) metadata floor new is =
    let both = parts (commit_floor m n) (commit_floor metadata floor) rest new is in
    let one : Same (commit_floor m n) (commit_floor metadata floor) = both.0 in
    let said : m ≡ metadata = cc in
    let number : n ≡ floor = cc in
    ap (λ (x : Option (List ℕ)). Ok (commit_floor x n, rest)) said
    ∙ (ap (λ (x : ℕ). Ok (commit_floor metadata x, rest)) number ∙ ap (λ (r : List ℕ). Ok (commit_floor metadata floor, r)) both.1)
from_commit (Err e) metadata floor new is = absurd (cc)

-- the encoding of an update of the code
abbrev pub bytes_of : {K V C D E : Type 0} → (K → List ℕ) → (V → List ℕ) → code_update.Ordered K E C V D → List ℕ
bytes_of key_of value_of u = key_of u.key ++ (value_of u.value ++ key_of u.next_key)

module _ {F K V A B C D E G H : Type 0} (key_of : K → List ℕ) (value_of : V → List ℕ) (key value : List ℕ → Outcome) (ks vs : ℕ)
    (Key : K → Type 0) (Value : V → Type 0) (key_field : (k : K) → Key k → IsField key ks (key_of k))
    (value_field : (v : V) → Value v → IsField value vs (value_of v)) where
  found_at : (old new : List ℕ) (o : Code F K V A B C D E G H)
      → fixed_at key value (item_at (after_ordered key value)) ks vs (ks + vs + ks) old ≡ Ok
      (all.meaning_of key_of value_of (bytes_of key_of value_of) o, new)
      → old ≡ fixed_encoding ks vs (meaning_of key_of value_of o) ++ new
      → IsValue Key Value (λ u. Key u.key × (Value u.value × Key u.next_key)) o
      → reading.operation_at key value ks vs old ≡ Ok (meaning_of key_of value_of o, new)
  found_at old new o found stands is = by o found stands is
    where
      alike : plain (fixed_at key value (item_at (after_ordered key value)) ks vs (ks + vs + ks) old) ≡ plain (reading.operation_at key value ks vs old)
      alike = fixed_alike key value (item_at (after_ordered key value)) (ordered_at key value) (ordered_alike key value) ks vs (ks + vs + ks) old

      by : (o : Code F K V A B C D E G H)
          → fixed_at key value (item_at (after_ordered key value)) ks vs (ks + vs + ks) old
          ≡ Ok (all.meaning_of key_of value_of (bytes_of key_of value_of) o, new)
          → old ≡ fixed_encoding ks vs (meaning_of key_of value_of o) ++ new
          → IsValue Key Value (λ u. Key u.key × (Value u.value × Key u.next_key)) o
          → reading.operation_at key value ks vs old ≡ Ok (meaning_of key_of value_of o, new)
      by (Delete k) found stands is = from_delete (reading.operation_at key value ks vs old) (key_of k) new (sym alike ∙ ap plain found)
      by (Update u) found stands is =
          ap (reading.operation_at key value ks vs) stands
          ∙ read_again key value ks vs (update (ordered (key_of u.key) (value_of u.value) (key_of u.next_key))) new
          (key_field u.key is.0, (value_field u.value is.1.0, key_field u.next_key is.1.1))
      by (CommitFloor metadata floor) found stands is =
          from_commit (reading.operation_at key value ks vs old) (option_map value_of metadata) floor new (sym alike ∙ ap plain found)

  pub reads : (old new : List ℕ) (lacks : Type 0) (result : Result (Code F K V A B C D E G H) Error)
      → ReadsAs (all.meaning_of key_of value_of (bytes_of key_of value_of))
      (λ o. all.fixed_encoding (λ bytes. bytes) ks vs (ks + vs + ks) (all.meaning_of key_of value_of (bytes_of key_of value_of) o)) old new
      (fixed_at key value (item_at (after_ordered key value)) ks vs (ks + vs + ks) old) lacks result
      → IfOk result (IsValue Key Value (λ u. Key u.key × (Value u.value × Key u.next_key)))
      → ReadsAs (meaning_of key_of value_of) (λ o. fixed_encoding ks vs (meaning_of key_of value_of o)) old new
      (reading.operation_at key value ks vs old) lacks result
  reads old new lacks (Ok o) read is = (found_at old new o read.0 (stands o read.1) is, stands o read.1)
    where
      stands : (o : Code F K V A B C D E G H)
          → old ≡ all.fixed_encoding (λ bytes. bytes) ks vs (ks + vs + ks) (all.meaning_of key_of value_of (bytes_of key_of value_of) o) ++ new
          → old ≡ fixed_encoding ks vs (meaning_of key_of value_of o) ++ new
      stands (Delete k) at = at
      stands (Update u) at = at
      stands (CommitFloor metadata floor) at = at
  reads old new lacks (Err e) refused is =
      refuses_as lacks lacks e (fixed_at key value (item_at (after_ordered key value)) ks vs (ks + vs + ks) old) (reading.operation_at key value ks vs old)
      (λ l. l) fails refused
    where
      fails : (f : Error) → fixed_at key value (item_at (after_ordered key value)) ks vs (ks + vs + ks) old ≡ Err f
          → reading.operation_at key value ks vs old ≡ Err f
      fails f is = from_fault (reading.operation_at key value ks vs old) f (sym (fixed_alike key value
          (item_at (after_ordered key value)) (ordered_at key value) (ordered_alike key value) ks vs (ks + vs + ks) old) ∙ ap plain is)
