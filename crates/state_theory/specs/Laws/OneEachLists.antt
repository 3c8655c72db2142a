-- Lists of strings with one at each site.
use Rattle.std.proofs.Common.{◌≡◌, ◌⊎◌, inl, inr, ⊎_elim, ℕ, zero, suc, List, [], ◌∷◌, ◌++◌, Contains, sym, ◌∙◌, ap}
use Rattle.std.proofs.Common.{subst, arith}
use Rattle.std.proofs.lemmas.List.Elements.{Contains-append_cases}
use Rattle.merkle_forest.specs.Made.{Site, Strings}
use Rattle.merkle_theory.specs.OneEach.{OneEach}

nothing : {A : Type 0} (x : A) → Contains [] x → ⊥
nothing x here = omega (arith, here.1)

only : {A : Type 0} (a x : A) → Contains (a ∷ []) x → a ≡ x
only a x (zero, few, is) = is
only a x (suc k, few, is) = absurd (omega (arith, few))

first_or_rest : (own : Site × List ℕ) (rest : Strings) (s : Site) (u : List ℕ) → Contains (own ∷ rest) (s, u)
    → ((own.0 ≡ s) × (own.1 ≡ u)) ⊎ Contains rest (s, u)
first_or_rest own rest s u here =
    ⊎_elim (λ first. let is = only own (s, u) first in
    inl (ap (λ (z : Site × List ℕ). z.0) is, ap (λ (z : Site × List ℕ). z.1) is))
    (λ more. inr more) (Contains-append_cases (own ∷ []) rest (s, u) here)

-- this holds of every site with its string, and at each site there is one
pub record IsOne (P : Site → List ℕ → Type 0) (list : Strings) : Type 0 where
  pub told : (s : Site) (u : List ℕ) → Contains list (s, u) → P s u
  pub one : OneEach list

-- where the one holds, so does the other
abbrev pub Implies : (Site → List ℕ → Type 0) → (Site → List ℕ → Type 0) → Type 0
Implies P R = (s : Site) (u : List ℕ) → P s u → R s u

pub none_one : (P : Site → List ℕ → Type 0) → IsOne P []
none_one P = record {
  told = λ s u here. absurd (nothing (s, u) here);
  one = λ s u v here there. absurd (nothing (s, u) here);
}

pub wider_one : (P R : Site → List ℕ → Type 0) (list : Strings) → IsOne P list → Implies P R → IsOne R list
wider_one P R list is wider = record { told = λ s u here. wider s u (is.told s u here); one = is.one }

module _ (P : Site → List ℕ
    → Type 0) (site : Site) (string : List ℕ) (list : Strings) (is : IsOne P list)
    (apart : (u : List ℕ) → P site u → ⊥) where
  top_same : (s : Site) (u v : List ℕ) → ((site ≡ s) × (string ≡ u)) ⊎ Contains list (s, u)
      → ((site ≡ s) × (string ≡ v)) ⊎ Contains list (s, v)
      → u ≡ v
  top_same s u v (inl a) (inl b) = sym a.1 ∙ b.1
  top_same s u v (inl a) (inr b) = absurd (apart v (subst (λ (z : Site). P z v) (sym a.0) (is.told s v b)))
  top_same s u v (inr a) (inl b) = absurd (apart u (subst (λ (z : Site). P z u) (sym b.0) (is.told s u a)))
  top_same s u v (inr a) (inr b) = is.one s u v a b

  -- a string at a site that none of the others has
  pub top_one : (R : Site → List ℕ → Type 0) → R site string → Implies P R → IsOne R ((site, string) ∷ list)
  top_one R own wider = record {
    told = λ s u here.
        ⊎_elim (λ
        (top : (site ≡ s) × (string ≡ u)). subst (λ (w : List ℕ). R s w) top.1
        (subst (λ (z : Site). R z string) top.0 own))
        (λ below. wider s u (is.told s u below)) (first_or_rest (site, string) list s u here);
    one = λ s u v here there. top_same s u v (first_or_rest (site, string) list s u here) (first_or_rest (
      site,
      string,
    ) list s v there);
  }

module _ (P Q : Site → List ℕ → Type 0) (front back : Strings) (is_front : IsOne P front) (is_back : IsOne Q back)
    (same : (s : Site) (u v : List ℕ) → P s u → Q s v → u ≡ v) where
  both_same : (s : Site) (u v : List ℕ) → Contains front (s, u) ⊎ Contains back (s, u) → Contains front (s, v)
      ⊎ Contains back (s, v) → u ≡ v
  both_same s u v (inl a) (inl b) = is_front.one s u v a b
  both_same s u v (inl a) (inr b) = same s u v (is_front.told s u a) (is_back.told s v b)
  both_same s u v (inr a) (inl b) = sym (same s v u (is_front.told s v b) (is_back.told s u a))
  both_same s u v (inr a) (inr b) = is_back.one s u v a b

  -- two lists that have one string at each site that both have
  pub append_one : (R : Site → List ℕ → Type 0) → Implies P R → Implies Q R → IsOne R (front ++ back)
  append_one R wider_front wider_back = record {
    told = λ s u here.
        ⊎_elim (λ l. wider_front s u (is_front.told s u l)) (λ r. wider_back s u (is_back.told s u r))
        (Contains-append_cases front back (s, u) here);
    one = λ s u v here there. both_same s u v (Contains-append_cases front back (s, u) here)
        (Contains-append_cases front back (s, v) there);
  }
