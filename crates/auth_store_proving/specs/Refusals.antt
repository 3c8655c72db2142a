-- Why the log is not read for a proof.
use Rattle.auth_store_index.specs.declared.values.ReadError.{ReadError}
use Rattle.auth_store_index.specs.declared.values.ReadError.TheVariants as reads
use Rattle.auth_store_proving.specs.declared.error.ProofError.{ProofError}
use Rattle.auth_store_proving.specs.declared.error.ProofError.TheVariants as proofs

-- why there is no proof where the log is not read for it
abbrev pub proof_unread : {E : Type 0} → ReadError E → ProofError E
proof_unread (reads.Memory e) = proofs.Memory
proof_unread (reads.Log why) = proofs.Log why
