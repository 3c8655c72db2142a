use Rattle.std.proofs.Common.{ap}
use Rattle.fault_storage.specs.Directory.{MemoryRemoves, MemoryScans, MemoryReads, MemoryFills, MemorySyncs}
use Rattle.fault_storage.specs.Faults.{FaultyOpens}
use Rattle.fault_storage_parts.specs.declared.error.Call.TheVariants.{Open, Read, Sync, Remove, Scan}
use Rattle.fault_storage.proofs.Counting.{plain-call, plain-write, plain-resize}
use Rattle.fault_storage.proofs.laws.rates_of_zero_change_nothing.Goals as goal

pub returns-clause-opening : goal.returns-clause-opening
returns-clause-opening g c partition name versions old new result quiet room made =
    plain-call g.R.Rng.stream Open old.config.«open» (FaultyOpens partition name versions) old new result (ap (λ r. r.numerator) quiet.opening) room made

pub returns-clause-scanning : goal.returns-clause-scanning
returns-clause-scanning g c partition old new result quiet room made =
    plain-call g.R.Rng.stream Scan old.config.scan (MemoryScans partition) old new result (ap (λ r. r.numerator) quiet.scanning) room made

pub returns-clause-removing : goal.returns-clause-removing
returns-clause-removing g c partition name old new result quiet room made =
    plain-call g.R.Rng.stream Remove old.config.remove (λ below. MemoryRemoves below partition name) old new result
    (ap (λ r. r.numerator) quiet.removing) room made

pub returns-clause-reading : goal.returns-clause-reading
returns-clause-reading g c blob offset count old new result quiet room made =
    plain-call g.R.Rng.stream Read old.config.read (MemoryReads blob offset count) old new result (ap (λ r. r.numerator) quiet.reading) room made

pub returns-clause-filling : goal.returns-clause-filling
returns-clause-filling g c blob offset buffer filled old new result quiet room made =
    plain-call g.R.Rng.stream Read old.config.read (MemoryFills blob offset buffer filled) old new result (ap (λ r. r.numerator) quiet.reading) room made

pub returns-clause-syncing : goal.returns-clause-syncing
returns-clause-syncing g c blob old new result quiet room made =
    plain-call g.R.Rng.stream Sync old.config.sync (MemorySyncs blob) old new result (ap (λ r. r.numerator) quiet.syncing) room made

pub returns-clause-writing : goal.returns-clause-writing
returns-clause-writing g c = plain-write g.R.Rng.stream

pub returns-clause-resizing : goal.returns-clause-resizing
returns-clause-resizing g c = plain-resize g.R.Rng.stream
