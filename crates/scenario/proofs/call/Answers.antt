-- Each arm is its kind's.
use Rattle.scenario.specs.Given.Called.{inserted, erased, compacted, inserted_by, compacted_by, ordered, kept}
use Rattle.scenario.proofs.Given.{of_kind, unchanged}
use Rattle.scenario.proofs.call.Goals as goal

pub returns-in-4 : goal.returns-in-4
returns-in-4 c = of_kind _ 4 _ _ c.in-4.is (inserted c.insert.ensures)

pub returns-in-5 : goal.returns-in-5
returns-in-5 c = of_kind _ 5 _ _ c.in-5.is (erased c.erase.ensures)

pub returns-in-8 : goal.returns-in-8
returns-in-8 c = of_kind _ 8 _ _ c.in-8.is (compacted c.compact.ensures)

pub returns-in-9 : goal.returns-in-9
returns-in-9 c = of_kind _ 9 _ _ c.in-9.is (inserted_by c.insert_by.ensures)

pub returns-in-12 : goal.returns-in-12
returns-in-12 c = of_kind _ 12 _ _ c.in-12.is (compacted_by c.compact_by.ensures)

pub returns-in-19 : goal.returns-in-19
returns-in-19 c = of_kind _ 19 _ _ c.in-19.is (ordered c.order.ensures)

pub returns-in_default : goal.returns-in_default
returns-in_default c = let x = c.in_default.in_default-own.rest in kept (unchanged _ x.0.0.0.0.0.1 x.0.0.0.0.1 x.0.0.0.1 x.0.0.1 x.0.1 x.1)
