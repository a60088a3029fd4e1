-- Without sideband, licence or control there are no rows.
use Rattle.table.specs.Table.{table_of}
use Rattle.dials.specs.Answer.{no_sideband, no_license, no_control, filled_empty}
use Rattle.dials.proofs.situation_list.Goals as goal

pub returns-in_default : goal.returns-in_default
returns-in_default c = filled_empty _ _ (no_control (table_of c.args.image.now) c.args.s c.args.direction c.args.e _ _ c.in_default.is-0 c.in_default.is-1 c.in_default.is-2)

pub returns-in_default-2 : goal.returns-in_default-2
returns-in_default-2 c = filled_empty _ _ (no_license (table_of c.args.image.now) c.args.s c.args.direction c.args.e _ c.in_default.is-0 c.in_default.is-1)

pub returns-in_default-3 : goal.returns-in_default-3
returns-in_default-3 c = filled_empty _ _ (no_sideband (table_of c.args.image.now) c.args.s c.args.direction c.args.e c.in_default.is-0)
