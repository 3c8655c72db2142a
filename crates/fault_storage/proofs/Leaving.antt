-- What a crash leaves of each file.
use Rattle.std.proofs.Common.{◌≡◌, ◌∷◌, [], ℕ, Bool, true, false, cond, List, refl}
use Rattle.std.specs.List.{list_any}
use Rattle.rand_core.specs.Stream.{Stream}
use Rattle.fault_storage_parts.specs.Files.{IsLeftOf, settled}
use Rattle.fault_storage_parts.proofs.Left.{left-same, left-settled}
use Rattle.fault_storage.specs.declared.stored.StoredFile.{StoredFile}
use Rattle.fault_storage.specs.Stores.{has_number, changed, settled_in, crashed_files, AreLeftOf}

all-same : (files : List StoredFile) → AreLeftOf files files
all-same [] = tt
all-same (stored ∷ later) = (refl, refl, left-same stored.file.base stored.file.log, all-same later)

-- a file of the list is settled, or none
changed-at : (stored left : StoredFile) (later others : List StoredFile) (number : ℕ) (words : Stream) (here : Bool)
    → (left.name ≡ stored.name) × (left.number ≡ stored.number) × IsLeftOf stored.file.base stored.file.log left.file.base left.file.log
    × AreLeftOf later others
    → AreLeftOf later (changed (has_number number) (λ file. (settled file words).0) others)
    → AreLeftOf (stored ∷ later)
    (cond here (record left { file = (settled left.file words).0 } ∷ others) (left ∷ changed (has_number number) (λ file. (settled file words).0) others))
changed-at stored left later others number words true before rest =
    (before.0, before.1, left-settled stored.file.base left.file.base stored.file.log left.file.log words before.2, before.3)
changed-at stored left later others number words false before rest = (before.0, before.1, before.2, rest)

all-changed : (files lefts : List StoredFile) (number : ℕ) (words : Stream) → AreLeftOf files lefts
    → AreLeftOf files (changed (has_number number) (λ file. (settled file words).0) lefts)
all-changed [] [] number words before = tt
all-changed [] (left ∷ others) number words before = absurd before
all-changed (stored ∷ later) [] number words before = absurd before
all-changed (stored ∷ later) (left ∷ others) number words before =
    changed-at stored left later others number words (has_number number left) before (all-changed later others number words before.3)

settled-at : (files lefts : List StoredFile) (number : ℕ) (words after : Stream) (there : Bool) → AreLeftOf files lefts
    → AreLeftOf files
    (cond {A = List StoredFile × Stream} there (changed (has_number number) (λ file. (settled file words).0) lefts, after) (lefts, words)).0
settled-at files lefts number words after true before = all-changed files lefts number words before
settled-at files lefts number words after false before = before

from : (files lefts : List StoredFile) (order : List ℕ) (words : Stream) → AreLeftOf files lefts → AreLeftOf files (crashed_files lefts order words).0
unfolding crashed_files
from files lefts [] words before = before
from files lefts (number ∷ later) words before =
    from files (settled_in number lefts words).0 later (settled_in number lefts words).1
    (settled-at files lefts number words _ (list_any (has_number number) lefts) before)

pub crash-leaves : (files : List StoredFile) (order : List ℕ) (words : Stream) → AreLeftOf files (crashed_files files order words).0
crash-leaves files order words = from files files order words (all-same files)
