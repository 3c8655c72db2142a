use Rattle.state_proofs.proofs.RangeLed.{one_led, none_led}
use Rattle.state_proofs.proofs.laws.a_range_leads_to_one_root_or_to_none.Goals as goal

pub returns : goal.returns
returns c = record {
  one = λ rule hash one other proof shown it also. one_led rule hash one other proof shown it also;
  none = λ rule hash root proof shown nowhere it. none_led rule hash root proof shown nowhere it;
}
