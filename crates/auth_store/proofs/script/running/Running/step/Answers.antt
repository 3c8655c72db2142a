use Rattle.auth_store.proofs.script.running.Running.step.Goals as goal

pub returns-in-Mmr : goal.returns-in-Mmr
returns-in-Mmr g c = rw c.in-Mmr.is c.step.ensures

pub returns-in-Mmb : goal.returns-in-Mmb
returns-in-Mmb g c = rw c.in-Mmb.is c.step-in-Mmb.ensures
