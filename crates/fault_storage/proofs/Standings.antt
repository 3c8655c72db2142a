-- What stands of a name: the first entry that passes, by its place.
use Rattle.std.proofs.Common.{
  ◌≡◌,
  ◌<◌,
  ◌∷◌,
  ◌++◌,
  [],
  ℕ,
  suc,
  Bool,
  true,
  false,
  cond,
  Option,
  Some,
  None,
  List,
  length,
  take,
  drop,
  set,
  get_or,
  drop-cons,
  ap,
  sym,
  refl,
  subst,
  ◌∙◌,
}
use Rattle.std.specs.Prelude.{find}
use Rattle.std.proofs.lemmas.List.{get_or_read, set_split}
use Rattle.fault_storage.specs.Pending.{Entry, IsFirst, changed}

pub first-found : (test : Entry → Bool) (entries : List Entry) (place : ℕ) (entry : Entry) → place < length entries
    → entry ≡ get_or entries place entry → test entry ≡ true → find test (drop place entries) ≡ find test entries
    → ((change : Entry → Entry) → take place entries ++ changed test change (drop place entries) ≡ changed test change entries)
    → IsFirst test entries place
first-found test entries place entry lt is passes same changes =
    let first : drop place entries ≡ entry ∷ drop (suc place) entries = drop-cons entries place entry lt
    ∙ ap (λ s. s ∷ drop (suc place) entries) (sym is) in
    record {
      within = lt;
      is = λ d. sym same ∙ ap (find test) first ∙ ap (λ b. cond b (Some entry) (find test (drop (suc place) entries))) passes
          ∙ ap Some (get_or_read entries place entry lt is d);
      change = λ change d. sym (changes change) ∙ ap (λ l. take place entries ++ changed test change l) first
          ∙ ap (λ b. take place entries ++ cond b (change entry ∷ drop (suc place) entries)
          (entry ∷ changed test change (drop (suc place) entries))) passes
          ∙ sym (set_split entries place (change entry) lt)
          ∙ ap (λ s. set entries place (change s)) (get_or_read entries place entry lt is d);
    }

neither : (b : Bool) (entry : Entry) (found : Option Entry) → cond b (Some entry) found ≡ None → (b ≡ false) × (found ≡ None)
neither true entry found e = cc
neither false entry found e = (refl, e)

-- where none passes, nothing is changed
pub changed-none : (test : Entry → Bool) (change : Entry → Entry) (entries : List Entry) → find test entries ≡ None
    → changed test change entries ≡ entries
changed-none test change [] none = refl
changed-none test change (entry ∷ later) none =
    let both : (test entry ≡ false) × (find test later ≡ None) = neither (test entry) entry (find test later) none in
    ap (λ b. cond b (change entry ∷ later) (entry ∷ changed test change later)) both.0
    ∙ ap (λ l. entry ∷ l) (changed-none test change later both.1)

-- an entry that is written at the place
pub changed-at : (test : Entry → Bool) (shown entries : List Entry) (place : ℕ) (entry made : Entry) (change : Entry → Entry)
    → shown ≡ entries → IsFirst test shown place → entry ≡ get_or entries place entry → made ≡ change entry
    → set entries place made ≡ changed test change entries
changed-at test shown entries place entry made change same at is makes =
    let there : IsFirst test entries place = subst (λ (l : List Entry). IsFirst test l place) same at in
    ap (set entries place) makes ∙ sym (there.change change entry ∙ ap (λ s. set entries place (change s)) (sym is))
