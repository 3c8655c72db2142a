-- What choices for the first mutations of a log leave of a file.
use Rattle.std.proofs.Common.{◌≡◌, ◌≤◌, ◌++◌, ◌∷◌, [], ℕ, Bool, List, length, take, drop, refl, ap, sym, ◌∙◌}
use Rattle.rand_core.specs.Stream.{Stream}
use Rattle.fault_storage_parts.specs.Files.{Mutation, ArePast, IsLeftOf, applied, left_by, drawn_choice, settled}
use Rattle.fault_storage_parts.proofs.Fronts.{applied-keeps}

pub left-none : (base : List ℕ) (log : List Mutation) → left_by [] base log ≡ base
left-none base [] = refl
left-none base (mutation ∷ later) = refl

-- one more choice
left-snoc : (choices : List (List Bool)) (choice : List Bool) (base : List ℕ) (log : List Mutation) (mutation : Mutation) (later : List Mutation)
    → drop (length choices) log ≡ mutation ∷ later → left_by (choices ++ choice ∷ []) base log ≡ applied choice mutation (left_by choices base log)
left-snoc [] choice base [] mutation later is = cc
left-snoc [] choice base (first ∷ rest) mutation later is =
    let same : first ≡ mutation = cc in left-none (applied choice first base) rest ∙ ap (λ m. applied choice m base) same
left-snoc (here ∷ choices) choice base [] mutation later is = cc
left-snoc (here ∷ choices) choice base (first ∷ rest) mutation later is = left-snoc choices choice (applied here first base) rest mutation later is

rest-snoc : (choices : List (List Bool)) (choice : List Bool) (log : List Mutation) (mutation : Mutation) (later : List Mutation)
    → drop (length choices) log ≡ mutation ∷ later → drop (length (choices ++ choice ∷ [])) log ≡ later
rest-snoc [] choice [] mutation later is = cc
rest-snoc [] choice (first ∷ rest) mutation later is = cc
rest-snoc (here ∷ choices) choice [] mutation later is = cc
rest-snoc (here ∷ choices) choice (first ∷ rest) mutation later is = rest-snoc choices choice rest mutation later is

pub left-same : (base : List ℕ) (log : List Mutation) → IsLeftOf base log base log
left-same base log = record { choices = []; is = sym (left-none base log); rest = refl }

-- one more mutation is settled
pub left-settled : (base left : List ℕ) (log rest : List Mutation) (words : Stream) → IsLeftOf base log left rest
    → IsLeftOf base log (settled (record { base = left; log = rest }) words).0.base (settled (record { base = left; log = rest }) words).0.log
unfolding settled
left-settled base left log [] words before = before
left-settled base left log (mutation ∷ later) words before =
    let drawn = drawn_choice mutation words in
    record {
      choices = before.choices ++ drawn.0 ∷ [];
      is = ap (applied drawn.0 mutation) before.is ∙ sym (left-snoc before.choices drawn.0 base log mutation later (sym before.rest));
      rest = sym (rest-snoc before.choices drawn.0 log mutation later (sym before.rest));
    }

keeps-by : (size : ℕ) (choices : List (List Bool)) (base : List ℕ) (log : List Mutation) → size ≤ length base → ArePast size log
    → take size (left_by choices base log) ≡ take size base
keeps-by size [] base log long past = ap (take size) (left-none base log)
keeps-by size (choice ∷ choices) base [] long past = refl
keeps-by size (choice ∷ choices) base (mutation ∷ later) long past =
    let here = applied-keeps size choice mutation base past.0 long in
    keeps-by size choices (applied choice mutation base) later here.0 past.1 ∙ here.1

pub left-keeps : (size : ℕ) (base left : List ℕ) (log later : List Mutation) → IsLeftOf base log left later → size ≤ length base → ArePast size log
    → take size left ≡ take size base
left-keeps size base left log later by long past = ap (take size) by.is ∙ keeps-by size by.choices base log long past
