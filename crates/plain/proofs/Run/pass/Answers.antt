-- `plain::Run::pass` meets its contract: by the table, the fewer tests show that a record is plain.
use Rattle.plain.specs.Quick.{stretch_by, plain_band, plain_segment, plain_channel, plain_privilege}
use Rattle.plain.specs.Quick.{plain_automatic, plain_excluded, plain_power, plain_plan_data, plain_plan_avoid}
use Rattle.plain.proofs.Run.pass.Goals as goal

pub returns-in-0 : goal.returns-in-0
returns-in-0 c = rw c.in-0.is (stretch_by _ _ _ _ _ _ plain_band c.pass_ranges.ensures)

pub returns-in-1 : goal.returns-in-1
returns-in-1 c = rw c.in-1.is (stretch_by _ _ _ _ _ _ plain_segment c.pass_ranges-in-1.ensures)

pub returns-in-2 : goal.returns-in-2
returns-in-2 c = rw c.in-2.is (stretch_by _ _ _ _ _ _ plain_channel c.pass_points.ensures)

pub returns-in-3 : goal.returns-in-3
returns-in-3 c = rw c.in-3.is (stretch_by _ _ _ _ _ _ plain_privilege c.pass_privileges.ensures)

pub returns-in-4 : goal.returns-in-4
returns-in-4 c = rw c.in-4.is (stretch_by _ _ _ _ _ _ plain_automatic c.pass_ranges-in-4.ensures)

pub returns-in-5 : goal.returns-in-5
returns-in-5 c = rw c.in-5.is (stretch_by _ _ _ _ _ _ plain_excluded c.pass_points-in-5.ensures)

pub returns-in-6 : goal.returns-in-6
returns-in-6 c = rw c.in-6.is (stretch_by _ _ _ _ _ _ plain_power c.pass_ranges-in-6.ensures)

pub returns-in-7 : goal.returns-in-7
returns-in-7 c = rw c.in-7.is (stretch_by _ _ _ _ _ _ plain_plan_data c.pass_ranges-in-7.ensures)

pub returns-in-8 : goal.returns-in-8
returns-in-8 c = rw c.in-8.is (stretch_by _ _ _ _ _ _ plain_plan_avoid c.pass_ranges-in-8.ensures)
