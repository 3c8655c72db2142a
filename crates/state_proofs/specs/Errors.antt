-- The printed texts of the errors of a state's proofs.
use Rattle.std.specs.Prelude.{ℕ, List, ◌++◌, codes}
use Rattle.std.specs.Fmt.{decimal}
use Rattle.merkle_core_parts.specs.Errors.{error_text}
use Rattle.state_proofs.specs.declared.error.Error.{Error}
use Rattle.state_proofs.specs.declared.error.Error.TheVariants.{DataCorrupted, OperationPruned, Merkle, Memory}

-- an error's number and what it means
abbrev pub refusal_text : {F : Type 0} → Error F → List ℕ
refusal_text DataCorrupted = codes "Q1: bits and operations do not belong together"
refusal_text (OperationPruned location) =
    codes "Q2: the operation at " ++ decimal location ++ codes " is in a pruned chunk"
refusal_text (Merkle error) = codes "Q3: " ++ error_text error
refusal_text Memory = codes "Q4: out of memory"
