-- The outcomes of a crash of a file, by any choices.
use Rattle.std.proofs.Common.{◌≡◌, ℕ, zero, suc, Bool, List, [], ◌∷◌, ◌++◌, length, take, drop, sym, ◌∙◌, ap, refl, arith}
use Rattle.std.proofs.lemmas.List.{length-take, length-append, drop-drop, take-take}
use Rattle.fault_storage_parts.specs.Files.{Mutation, written, fixed, resized_to, ArePast, IsPast, IsLeftOf, applied, left_by, durable_bytes, durable_step}
use Rattle.fault_storage_parts.proofs.Left.{left-keeps, left-same}
use Rattle.fault_storage_parts.specs.Headers.{created}
use Rattle.auth_store_device.specs.Logs.{HasHeader, BeginsAsMade}

-- further choices, for what earlier ones left
left-further : (choices others : List (List Bool)) (base : List ℕ) (log : List Mutation)
    → left_by (choices ++ others) base log ≡ left_by others (left_by choices base log) (drop (length choices) log)
left-further [] others base [] = refl
left-further [] others base (mutation ∷ later) = refl
left-further (choice ∷ choices) others base [] = refl
left-further (choice ∷ choices) others base (mutation ∷ later) = left-further choices others (applied choice mutation base) later

pub left-left : (base left last : List ℕ) (log later rest : List Mutation) → IsLeftOf base log left later → IsLeftOf left later last rest
    → IsLeftOf base log last rest
left-left base left last log later rest by then =
    let n = length by.choices in
    record {
      choices = by.choices ++ then.choices;
      is = then.is ∙ ap (λ l. left_by then.choices l later) by.is ∙ ap (left_by then.choices (left_by by.choices base log)) by.rest
          ∙ sym (left-further by.choices then.choices base log);
      rest = then.rest ∙ ap (drop (length then.choices)) by.rest ∙ drop-drop (length then.choices) n log
          ∙ ap (λ k. drop k log) (omega (arith, length-append by.choices then.choices));
    }

pub past-drop : (size n : ℕ) (log : List Mutation) → ArePast size log → ArePast size (drop n log)
past-drop size zero log past = past
past-drop size (suc n) [] past = past
past-drop size (suc n) (mutation ∷ later) past = past-drop size n later past.1

pub past-snoc : (size : ℕ) (log : List Mutation) (mutation : Mutation) → ArePast size log → IsPast size mutation → ArePast size (log ++ mutation ∷ [])
past-snoc size [] mutation past is = (is, tt)
past-snoc size (first ∷ later) mutation past is = (past.0, past-snoc size later mutation past.1 is)

-- a file with the same first bytes has the same header
pub same-header : (bytes other : List ℕ) → take 8 other ≡ take 8 bytes → HasHeader bytes → HasHeader other
same-header bytes other same headed =
    let long = ap length same in
    record {
      long = omega (arith, long, length-take 8 other, length-take 8 bytes, headed.long);
      magic = sym (take-take 4 8 other (omega arith)) ∙ ap (take 4) same ∙ take-take 4 8 bytes (omega arith) ∙ headed.magic;
    }

-- a log that the device makes has a header
pub made-headed : (bytes : List ℕ) → BeginsAsMade bytes → HasHeader bytes
unfolding created
made-headed bytes made =
    let long = ap length made in
    record {
      long = omega (arith, long, length-take 8 bytes);
      magic = sym (take-take 4 8 bytes (omega arith)) ∙ ap (take 4) made;
    }

pub left-headed : (base left : List ℕ) (log later : List Mutation) → IsLeftOf base log left later → ArePast 8 log → HasHeader base → HasHeader left
left-headed base left log later by past headed = same-header base left (left-keeps 8 base left log later by headed.long past) headed

-- what is durable is an outcome
pub durable-left : (base : List ℕ) (log : List Mutation) → IsLeftOf base log (durable_bytes base log) []
durable-left base [] = left-same base []
durable-left base (mutation ∷ later) =
    let rest = durable-left (durable_step mutation base) later in
    record {
      choices = [] ∷ rest.choices;
      is = rest.is ∙ ap (λ l. left_by rest.choices l later) (none mutation);
      rest = rest.rest;
    }
  where
    none : (mutation : Mutation) → durable_step mutation base ≡ applied [] mutation base
    none (written offset [] mode rate) = refl
    none (written offset (byte ∷ bytes) mode rate) = refl
    none (fixed offset bytes kept) = refl
    none (resized_to size rate) = refl

-- where one more mutation was issued, some choice of it follows an outcome without it
pub left-issued : (choices : List (List Bool)) (base last : List ℕ) (log : List Mutation) (mutation : Mutation)
    → last ≡ left_by choices base (log ++ mutation ∷ []) → [] ≡ drop (length choices) (log ++ mutation ∷ [])
    → (before : List ℕ) × IsLeftOf base log before [] × ((choice : List Bool) × (last ≡ applied choice mutation before))
left-issued [] base last [] mutation is ends = cc
left-issued (choice ∷ choices) base last [] mutation is ends = (base, left-same base [], (choice, is))
left-issued [] base last (first ∷ later) mutation is ends = cc
left-issued (choice ∷ choices) base last (first ∷ later) mutation is ends =
    let rest = left-issued choices (applied choice first base) last later mutation is ends in
    (rest.0, record { choices = choice ∷ rest.1.choices; is = rest.1.is; rest = rest.1.rest }, rest.2)
