-- Mutations, as the code holds them.
use Rattle.std.specs.Prelude.{List, map}
use Rattle.fault_storage_parts.specs.declared.file.Mutation as code
use Rattle.fault_storage_parts.specs.declared.file.Mutation.TheVariants.{Plain, Fixed, ResizedTo}
use Rattle.fault_storage_parts.specs.DrawsCode.{rate_of, mode_of}
use Rattle.fault_storage_parts.specs.Files.{Mutation, written, fixed, resized_to}

abbrev pub mutation_of : code.Mutation → Mutation
mutation_of (Plain it mode rate) = written it.offset it.bytes.items (mode_of mode) (rate_of rate)
mutation_of (Fixed it kept) = fixed it.offset it.bytes.items kept.items
mutation_of (ResizedTo size rate) = resized_to size (rate_of rate)

abbrev pub log_of : List code.Mutation → List Mutation
log_of log = map mutation_of log
