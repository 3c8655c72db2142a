use Rattle.state_proofs.proofs.ordered.KeyValueProof.try_copy.Goals as goal

pub returns-clause-key : goal.returns-clause-key
returns-clause-key g c = g.met.K.Faithful.copied c.args.self.now.next_key c.in_ok-next_key.next_key c.in_ok-next_key.ensures.cases
