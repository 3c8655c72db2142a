-- Operations of the code, written and found again.
use Rattle.std.proofs.Common.{◌≡◌, ℕ, List, ◌++◌, length, Option, None, Some, option_map, Ok, refl}
use Rattle.std.specs.Prelude.{IfSome}
use Rattle.merkle_forest.specs.Codec.{Outcome}
use Rattle.state_ops_parts.specs.declared.operation.Operation as code
use Rattle.state_ops_parts.specs.declared.operation.Operation.TheVariants.{Delete, Update, CommitFloor}
use Rattle.state_ops_parts.specs.Operation.{Operation, meaning_of, fixed_encoding, variable_encoding, IsOperation}
use Rattle.state_ops_parts.specs.Operation.{IsValue}
use Rattle.state_ops_parts.specs.Grammar.{item_at, Ends, HasFields, HasSizes, fixed_at, variable_at}
use Rattle.state_ops_parts.specs.Laws.Found.{item_is}
use Rattle.state_ops_parts.specs.Laws.Again.{fixed_again, variable_again}

if_some_map : {T U : Type 0} (P : T → Type 0) (Q : U → Type 0) (f : T → U) → ((x : T) → P x → Q (f x)) → (m : Option T)
    → IfSome m P → IfSome (option_map f m) Q
if_some_map P Q f all None is = tt
if_some_map P Q f all (Some x) is = all x is

module _ {F S A B C D E G : Type 0} (key_of : A → List ℕ) (value_of : B → List ℕ)
    (update_of : S → List ℕ) (key value updated : List ℕ → Outcome)
    (Key : A → Type 0) (Value : B → Type 0) (Updated : S → Type 0)
    (key_ends : (k : A) → Key k → Ends key (key_of k)) (value_ends : (v : B) → Value v → Ends value (value_of v))
    (update_ends : (u : S) → Updated u → Ends updated (update_of u)) where
  abbrev said : code.Operation F S A B C D E G → Operation (List ℕ)
  said o = meaning_of key_of value_of update_of o

  has_fields : (o : code.Operation F S A B C D E G) → IsOperation Key Value Updated o
      → HasFields key value (item_at updated) (λ bytes. bytes) (said o)
  has_fields (Delete k) is = key_ends k is
  has_fields (Update u) is =
      λ rest. item_is updated (update_of u ++ rest) (update_of u) rest (update_ends u is rest) refl
  has_fields (CommitFloor metadata floor) is = (if_some_map Value (Ends value) value_of value_ends metadata is.0, is.1)

  pub variable_found_again : (o : code.Operation F S A B C D E G) (rest : List ℕ) → IsOperation Key Value Updated o
      → variable_at key value (item_at updated) (variable_encoding (λ bytes. bytes) (said o)
      ++ rest) ≡ Ok (said o, rest)
  variable_found_again o rest is =
      variable_again key value (item_at updated) (λ bytes. bytes) (said o) rest (has_fields o is)

  module _ (ks vs us : ℕ) (key_sized : (k : A) → Key k → length (key_of k) ≡ ks)
      (value_sized : (v : B) → Value v → length (value_of v) ≡ vs)
      (update_sized : (u : S) → Updated u → length (update_of u) ≡ us) where
    has_sizes : (o : code.Operation F S A B C D E G) → IsOperation Key Value Updated o
        → HasSizes (λ bytes. bytes) ks vs us (said o)
    has_sizes (Delete k) is = key_sized k is
    has_sizes (Update u) is = update_sized u is
    has_sizes (CommitFloor metadata floor) is =
        if_some_map Value (λ bytes. length bytes ≡ vs) value_of value_sized metadata is.0

    pub fixed_found_again : (o : code.Operation F S A B C D E G) (rest : List ℕ) → IsOperation Key Value Updated o
        → fixed_at key value (item_at updated) ks vs us (fixed_encoding (λ bytes. bytes) ks vs us (said o)
        ++ rest) ≡ Ok (said o, rest)
    fixed_found_again o rest is =
        fixed_again key value (item_at updated) (λ bytes. bytes) ks vs us (said o) rest
        (has_fields o is) (has_sizes o is)

-- what is a value and within the limits of a reader is both
pub both : {F S A B C D E G : Type 0} (KeyValue KeyWithin : A → Type 0)
    (Value Within : B → Type 0) (UpdateValue UpdateWithin : S → Type 0)
    (o : code.Operation F S A B C D E G)
    → IsValue KeyValue Value UpdateValue o → IsOperation KeyWithin Within UpdateWithin o
    → IsOperation (λ k. KeyValue k × KeyWithin k) (λ v. Value v × Within v) (λ u. UpdateValue u × UpdateWithin u) o
both kv kw v w uv uw (Delete k) is within = (is, within)
both kv kw v w uv uw (Update u) is within = (is, within)
both kv kw v w uv uw (CommitFloor None floor) is within = (tt, within.1)
both kv kw v w uv uw (CommitFloor (Some m) floor) is within = ((is.0, within.0), within.1)
