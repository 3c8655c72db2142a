use Rattle.auth_store.proofs.script.running.Running.into_device.Goals as goal

pub returns-in-Mmr : goal.returns-in-Mmr
returns-in-Mmr c = rw c.in-Mmr.is c.into_device.ensures

pub returns-in-Mmb : goal.returns-in-Mmb
returns-in-Mmb c = rw c.in-Mmb.is c.into_device-in-Mmb.ensures
