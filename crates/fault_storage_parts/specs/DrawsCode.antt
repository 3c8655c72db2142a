-- Rates and modes, as the code holds them.
use Rattle.fault_storage_parts.specs.declared.probability.Probability.{Probability}
use Rattle.fault_storage_parts.specs.declared.draws.PartialWriteMode.{PartialWriteMode}
use Rattle.fault_storage_parts.specs.declared.draws.PartialWriteMode.TheVariants.{Prefix, Subset}
use Rattle.fault_storage_parts.specs.Draws.{Rate, Mode, prefix, subset}

abbrev pub rate_of : Probability → Rate
rate_of rate = record { numerator = rate.numerator; denominator = rate.denominator }

abbrev pub mode_of : PartialWriteMode → Mode
mode_of Prefix = prefix
mode_of Subset = subset
