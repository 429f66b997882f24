use Rattle.layout.specs.FormatLaws.{reads_spells, spelled_reads, reads_fault, fault_reads, one_reading}
use Rattle.layout.proofs.laws.reading_is_spelling.Goals as goal

pub returns-clause-found : goal.returns-clause-found
returns-clause-found g c = λ f at bytes x. reads_spells f at bytes x

pub returns-clause-only : goal.returns-clause-only
returns-clause-only g c = λ f at first others v. spelled_reads f at first others v

pub returns-clause-fault : goal.returns-clause-fault
returns-clause-fault g c = λ f at bytes e. reads_fault f at bytes e

pub returns-clause-refused : goal.returns-clause-refused
returns-clause-refused g c = λ f at bytes e. fault_reads f at bytes e

pub returns-clause-one : goal.returns-clause-one
returns-clause-one g c = λ f a b x v w. one_reading f a b x v w
