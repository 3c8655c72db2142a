-- What is left of a log where what is made of it is refused.
use Rattle.auth_store_index.specs.declared.values.ReadError as code
use Rattle.auth_store_index.specs.declared.values.ReadError.TheVariants.{Memory, Log}

-- where the log refused a read, this holds of its refusal; where memory was lacking, that, as no read was refused
abbrev pub IfLog : {E : Type 0} → Type 0 → (E → Type 0) → code.ReadError E → Type 0
IfLog unrefused refused (Memory e) = unrefused
IfLog unrefused refused (Log e) = refused e
