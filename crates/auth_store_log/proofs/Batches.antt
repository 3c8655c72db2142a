-- How operations lead from commit to commit.
use Rattle.std.proofs.Common.{◌≡◌, ℕ, zero, suc, ◌+◌, ◌-◌, ◌<◌, ◌≤◌, Bool, true, false, List, [], ◌∷◌, ◌++◌, Option}
use Rattle.std.proofs.Common.{None, map, take, drop, length, get_or, add-one, append_assoc, refl, ap, sym, ◌∙◌, arith}
use Rattle.std.specs.Prelude.{◌||◌}
use Rattle.std.specs.List.{list_any}
use Rattle.std.proofs.lemmas.List.{length-map, length-append, append-nil, append_cancel_left, take-map, take_at}
use Rattle.state_ops.specs.Operation.{Operation, delete, update, ordered, commit_floor}
use Rattle.auth_store_parts.specs.Map.{Map, with_entry, without_key}
use Rattle.auth_store_parts.specs.History.{History, Commit, latest_map, is_commit, replayed, history_from, history_of}
use Rattle.auth_store_parts.specs.History.{appended, log_of, batch_operations, inactivity_floor}
use Rattle.auth_store_log.specs.Batches.{IsNextBatch}

-- a batch leads to one commit more
pub from_batch : (state : Map) (history : History) (batch : List Operation) (metadata : Option (List ℕ)) (floor : ℕ)
    (later : List Operation) → list_any is_commit batch ≡ false
    → history_from state history (batch ++ commit_floor metadata floor ∷ later)
    ≡ history_from (replayed state batch) (record { map = replayed state batch; metadata = metadata } ∷ history) later
from_batch state history [] metadata floor later none = refl
from_batch state history (delete key ∷ batch) metadata floor later none =
    from_batch (without_key state key) history batch metadata floor later none
from_batch state history (update (ordered key value next) ∷ batch) metadata floor later none =
    from_batch (with_entry state key value) history batch metadata floor later none
from_batch state history (commit_floor other at ∷ batch) metadata floor later none = absurd (cc)

-- operations without a commit lead to none
pub from_none : (state : Map) (history : History) (operations : List Operation) → list_any is_commit operations ≡ false
    → history_from state history operations ≡ history
from_none state history [] none = refl
from_none state history (delete key ∷ operations) none = from_none (without_key state key) history operations none
from_none state history (update (ordered key value next) ∷ operations) none =
    from_none (with_entry state key value) history operations none
from_none state history (commit_floor metadata floor ∷ operations) none = absurd (cc)

-- a history with one commit more, to which a batch leads
abbrev pub with_batch : History → List Operation → Option (List ℕ) → History
with_batch history batch metadata = record { map = replayed (latest_map history) batch; metadata = metadata } ∷ history

-- from there the operations behind it lead on
pub leads_on : (history : History) (batch : List Operation) (floor : ℕ) (later operations : List Operation)
    → (next : IsNextBatch batch floor later operations)
    → history_from (replayed (latest_map history) batch) (with_batch history batch next.metadata) later
    ≡ history_from (latest_map history) history operations
leads_on history batch floor later operations next =
    sym (ap (history_from (latest_map history) history) next.whole
    ∙ from_batch (latest_map history) history batch next.metadata floor later next.before_commit)

-- the log of a history begins that of each one that goes on from there
pub begins : (state : Map) (history : History) (operations : List Operation)
    → (rest : List Operation) × (log_of (history_from state history operations) ≡ log_of history ++ rest)
begins state history [] = ([], sym (append-nil (log_of history)))
begins state history (delete key ∷ operations) = begins (without_key state key) history operations
begins state history (update (ordered key value next) ∷ operations) =
    begins (with_entry state key value) history operations
begins state history (commit_floor metadata floor ∷ operations) =
    let commit : Commit = record { map = state; metadata = metadata } in
    let added : List Operation = appended (log_of history) (latest_map history) state metadata in
    let later = begins state (commit ∷ history) operations in
    (added ++ later.0, later.1 ∙ append_assoc (log_of history) added later.0)

left_false : (a b : Bool) → (a || b) ≡ false → a ≡ false
left_false true b e = e
left_false false b e = refl

right_false : (a b : Bool) → (a || b) ≡ false → b ≡ false
right_false true b e = absurd (cc)
right_false false b e = e

-- what stands before the first commit of a list, and that commit, are told by the list
pub one_first_batch : (batch changes later others : List Operation) (a b : Operation)
    → list_any is_commit batch ≡ false → list_any is_commit changes ≡ false
    → is_commit a ≡ true → is_commit b ≡ true → batch ++ a ∷ later ≡ changes ++ b ∷ others → (batch ≡ changes) × (a ≡ b)
one_first_batch [] [] later others a b none free is_a is_b same = (refl, cc)
one_first_batch [] (c ∷ changes) later others a b none free is_a is_b same =
    let first : a ≡ c = cc in
    let not_c = left_false (is_commit c) (list_any is_commit changes) free in
    let yes : true ≡ false = sym is_a ∙ ap is_commit first ∙ not_c in
    absurd (cc)
one_first_batch (o ∷ batch) [] later others a b none free is_a is_b same =
    let first : o ≡ b = cc in
    let not_o = left_false (is_commit o) (list_any is_commit batch) none in
    let yes : true ≡ false = sym is_b ∙ ap is_commit (sym first) ∙ not_o in
    absurd (cc)
one_first_batch (o ∷ batch) (c ∷ changes) later others a b none free is_a is_b same =
    let first : o ≡ c = cc in
    let behind : batch ++ a ∷ later ≡ changes ++ b ∷ others = cc in
    let rest = one_first_batch batch changes later others a b (right_false (is_commit o) (list_any is_commit batch) none)
    (right_false (is_commit c) (list_any is_commit changes) free) is_a is_b behind in
    (ap (λ x. x ∷ batch) first ∙ ap (λ l. c ∷ l) rest.0, rest.1)

-- a batch is what the rule appends to a log that led to this state, and its commit records the floor
pub record FollowsRule (log : List Operation) (state : Map) (batch : List Operation) (floor : ℕ) : Type 0 where
  pub changes : batch ≡ batch_operations state (replayed state batch)
  pub recorded : floor ≡ inactivity_floor (log ++ batch)

module _ (whole : (old new : Map) → list_any is_commit (batch_operations old new) ≡ false) where
  -- behind the log of a history the log of a longer one has a batch that follows the rule
  pub rule_followed : (history : History) (batch : List Operation) (floor : ℕ) (later operations : List Operation)
      → IsNextBatch batch floor later operations
      → log_of history ++ operations ≡ log_of (history_from (latest_map history) history operations)
      → FollowsRule (log_of history) (latest_map history) batch floor
  rule_followed history batch floor later operations next goes_on =
      let state : Map = latest_map history in
      let log : List Operation = log_of history in
      let new : Map = replayed state batch in
      let changes : List Operation = batch_operations state new in
      let commit : Operation = commit_floor next.metadata floor in
      let due : Operation = commit_floor next.metadata (inactivity_floor (log ++ changes)) in
      let longer = begins new (with_batch history batch next.metadata) later in
      let appended_is : log ++ (batch ++ commit ∷ later) ≡ log ++ (changes ++ due ∷ longer.0) =
      ap (λ l. log ++ l) (sym next.whole) ∙ goes_on
      ∙ ap log_of (sym (leads_on history batch floor later operations next)) ∙ longer.1
      ∙ append_assoc log (changes ++ due ∷ []) longer.0
      ∙ ap (λ l. log ++ l) (append_assoc changes (due ∷ []) longer.0) in
      let both = one_first_batch batch changes later longer.0 commit due next.before_commit (whole state new) refl refl
      (append_cancel_left log (batch ++ commit ∷ later) (changes ++ due ∷ longer.0) appended_is) in
      let floors : floor ≡ inactivity_floor (log ++ changes) = let e = both.1 in cc in
      record {
        changes = both.0;
        recorded = floors ∙ ap (λ l. inactivity_floor (log ++ l)) (sym both.0);
      }

-- and with a batch that follows the rule it is the log of that longer one
pub rule_goes_on : (history : History) (batch : List Operation) (metadata : Option (List ℕ)) (floor : ℕ)
    → FollowsRule (log_of history) (latest_map history) batch floor
    → log_of history ++ (batch ++ commit_floor metadata floor ∷ []) ≡ log_of (with_batch history batch metadata)
rule_goes_on history batch metadata floor follows =
    let state : Map = latest_map history in
    let log : List Operation = log_of history in
    let changes : List Operation = batch_operations state (replayed state batch) in
    ap (λ f. log ++ (batch ++ commit_floor metadata f ∷ [])) follows.recorded
    ∙ ap (λ l. log ++ (l ++ commit_floor metadata (inactivity_floor (log ++ l)) ∷ [])) follows.changes

-- So far operations are the log of a history, and what is left leads from there to the history of all.
pub record IsReached (history : History) (said left : List Operation) : Type 0 where
  pub whole : said ≡ log_of history ++ left
  pub leads : history_from (latest_map history) history left ≡ history_of said

-- it is reached behind the first operation of a log
pub reached_first : (said left : List Operation) → said ≡ commit_floor None 0 ∷ left → IsReached [] said left
reached_first said left is = record { whole = is; leads = sym (ap history_of is) }

-- and behind a batch that follows the rule
pub reached_next : (history : History) (said left batch : List Operation) (floor : ℕ) (later : List Operation)
    → IsReached history said left → (next : IsNextBatch batch floor later left)
    → FollowsRule (log_of history) (latest_map history) batch floor
    → IsReached (with_batch history batch next.metadata) said later
reached_next history said left batch floor later reached next follows =
    let log : List Operation = log_of history in
    let commit : Operation = commit_floor next.metadata floor in record {
      whole = reached.whole ∙ ap (λ l. log ++ l) next.whole
          ∙ ap (λ l. log ++ l) (sym (append_assoc batch (commit ∷ []) later))
          ∙ sym (append_assoc log (batch ++ commit ∷ []) later)
          ∙ ap (λ l. l ++ later) (rule_goes_on history batch next.metadata floor follows);
      leads = leads_on history batch floor later left next ∙ reached.leads;
    }

-- reached at its end, it is a log
pub reached_end : (history : History) (said left : List Operation) → IsReached history said left → left ≡ []
    → (said ≡ log_of history) × (said ≡ log_of (history_of said))
reached_end history said left reached none =
    let log : said ≡ log_of history = reached.whole ∙ ap (λ l. log_of history ++ l) none ∙ append-nil (log_of history) in
    let same : history ≡ history_of said = sym (ap (history_from (latest_map history) history) none) ∙ reached.leads in
    (log, log ∙ ap log_of same)

-- where all of it is a log, so is what is left behind what was reached
pub goes_on_from : (history : History) (said left : List Operation) → IsReached history said left
    → said ≡ log_of (history_of said)
    → log_of history ++ left ≡ log_of (history_from (latest_map history) history left)
goes_on_from history said left reached is =
    sym reached.whole ∙ is ∙ ap log_of (sym reached.leads)

-- each log begins with a commit of nothing
pub first_of_log : (first : Operation) (left : List Operation)
    → first ∷ left ≡ log_of (history_of (first ∷ left)) → first ≡ commit_floor None 0
first_of_log first left is =
    let begun = begins [] [] left in
    let both : first ∷ left ≡ commit_floor None 0 ∷ begun.0 = is ∙ begun.1 in
    cc

-- operations without a commit are the end of no log, unless there are none
pub nothing_left : (history : History) (operations : List Operation) → list_any is_commit operations ≡ false
    → log_of history ++ operations ≡ log_of (history_from (latest_map history) history operations) → operations ≡ []
nothing_left history operations none goes_on =
    append_cancel_left (log_of history) operations [] (goes_on
    ∙ ap log_of (from_none (latest_map history) history operations none) ∙ sym (append-nil (log_of history)))

module _ {A : Type 0} (meaning : A → Operation) where
  cut : (xs : List A) (at : ℕ) (x : A) → at < length xs → x ≡ get_or xs at x
      → map meaning xs ≡ map meaning (take at xs) ++ meaning x ∷ map meaning (drop (suc at) xs)
  cut [] at x within is = absurd (omega (arith, within))
  cut (y ∷ xs) zero x within is = ap (λ z. meaning z ∷ map meaning xs) (sym is)
  cut (y ∷ xs) (suc at) x within is = ap (λ l. meaning y ∷ l) (cut xs at x (omega (arith, within)) is)

  -- what stands before an element, the element, and what stands behind it
  pub cut_at : (xs : List A) (at : ℕ) (x : A) → at < length xs → x ≡ get_or xs at x
      → map meaning xs ≡ map meaning (take at xs) ++ meaning x ∷ map meaning (drop (at + 1) xs)
  cut_at xs at x within is = rw add-one (cut xs at x within is)

  none_more : (xs : List A) (at : ℕ) (x : A) → at < length xs → x ≡ get_or xs at x
      → list_any is_commit (map meaning (take at xs)) ≡ false → is_commit (meaning x) ≡ false
      → list_any is_commit (map meaning (take (suc at) xs)) ≡ false
  none_more [] at x within is none this = absurd (omega (arith, within))
  none_more (y ∷ xs) zero x within is none this =
      ap (λ z. is_commit (meaning z) || false) (sym is) ∙ ap (λ b. b || false) this
  none_more (y ∷ xs) (suc at) x within is none this =
      elim (is_commit (meaning y)) as (λ b. (b || list_any is_commit (map meaning (take at xs))) ≡ false
      → (b || list_any is_commit (map meaning (take (suc at) xs))) ≡ false) [
        | true ↦ λ some. absurd (cc)
        | false ↦ λ others. none_more xs at x (omega (arith, within)) is others this
      ] none

  -- one element more that is no commit
  pub no_commit_more : (xs : List A) (at : ℕ) (x : A) → at < length xs → x ≡ get_or xs at x
      → list_any is_commit (map meaning (take at xs)) ≡ false → is_commit (meaning x) ≡ false
      → list_any is_commit (map meaning (take (at + 1) xs)) ≡ false
  no_commit_more xs at x within is none this = rw add-one (none_more xs at x within is none this)

  -- what comes behind a batch is shorter
  pub shorter : (operations later : List A) (batch : List Operation) (floor : ℕ)
      → IsNextBatch batch floor (map meaning later) (map meaning operations) → suc (length later) ≤ length operations
  shorter operations later batch floor next =
      omega (
        arith,
        length-map operations meaning,
        length-map later meaning,
        ap length next.whole,
        length-append batch (commit_floor next.metadata floor ∷ map meaning later),
      )

  -- how long a batch is that stands behind the first of all operations, and what is left of them
  pub lengths : (all rest batch : List A) (front later : List Operation) → map meaning all ≡ front ++ map meaning rest
      → map meaning rest ≡ map meaning batch ++ later
      → (length all ≡ length front + length rest) × (length batch ≤ length rest)
  lengths all rest batch front later whole next =
      let total = ap length whole ∙ length-append front (map meaning rest) in
      let part = ap length next ∙ length-append (map meaning batch) later in (
        omega (arith, total, length-map all meaning, length-map rest meaning),
        omega (arith, part, length-map batch meaning, length-map rest meaning),
      )

  -- all operations up to the end of the batch
  pub up_to : (all rest batch : List A) (front later : List Operation) → map meaning all ≡ front ++ map meaning rest
      → map meaning rest ≡ map meaning batch ++ later
      → map meaning (take (length all - length rest + length batch) all) ≡ front ++ map meaning batch
  up_to all rest batch front later whole next =
      let end = length all - length rest + length batch in
      let long = lengths all rest batch front later whole next in
      let at : length (front ++ map meaning batch) ≡ end =
      omega (arith, long.0, length-append front (map meaning batch), length-map batch meaning) in
      sym (take-map meaning end all)
      ∙ ap (take end) (whole ∙ ap (λ l. front ++ l) next ∙ sym (append_assoc front (map meaning batch) later))
      ∙ take_at (front ++ map meaning batch) later end at

  -- all operations up to what is left
  pub so_far : (all rest : List A) (front : List Operation) → map meaning all ≡ front ++ map meaning rest
      → map meaning (take (length all - length rest) all) ≡ front
  so_far all rest front whole =
      let total = ap length whole ∙ length-append front (map meaning rest) in
      let at : length front ≡ length all - length rest =
      omega (arith, total, length-map all meaning, length-map rest meaning) in
      sym (take-map meaning (length all - length rest) all)
      ∙ ap (take (length all - length rest)) whole
      ∙ take_at front (map meaning rest) (length all - length rest) at
