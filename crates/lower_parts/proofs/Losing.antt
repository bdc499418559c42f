-- What is forgotten where instructions give up what is left, and where labels stand.
use Rattle.std.proofs.Common.{◌≡◌, ap, ◌∙◌, subst, ℕ, [], length}
use Rattle.cell_code.specs.declared.code.Instr.TheVariants as I
use Rattle.lower_frame.specs.lowering_relation.Written.{Written, added, GivesUp, Extends, IsAt, size}
use Rattle.lower_frame.proofs.lowering_relation.Placing.{gives_none, gives_up_on, gives_one, same_extends, extends_on}
use Rattle.lower_frame.proofs.Losing.{loses_same, loses_on, loses_nothing, loses_used, loses_taken, loses_widened}
use Rattle.lower_parts.specs.Laying.{HasLabelAt}
use Rattle.lower_parts.proofs.Shedding.{sheds_same, sheds_on, sheds_take, sheds_drop, sheds_free, sheds_widened}

-- and instructions that give up
pub gives_take : (v w : Written) (r : ℕ) → w ≡ added v (I.Take r []) → GivesUp v w
gives_take v w r e = gives_one v w (I.Take r []) e tt

pub gives_drop : (v w : Written) (r : ℕ) → w ≡ added v (I.Drop r) → GivesUp v w
gives_drop v w r e = gives_one v w (I.Drop r) e tt

pub gives_free : (v w : Written) (r : ℕ) → w ≡ added v (I.Free r) → GivesUp v w
gives_free v w r e = gives_one v w (I.Free r) e tt

pub ruleset giving_up = (loses_same, loses_on, loses_nothing, loses_used, loses_taken, gives_none, gives_up_on, gives_take, gives_drop, gives_free, sheds_same, sheds_on, sheds_take, sheds_drop, sheds_free)

pub ruleset leaving = (loses_same, loses_on, loses_widened, loses_nothing, loses_used, loses_taken, gives_none, gives_up_on, sheds_on, sheds_widened)

-- and a label more
pub label_on : (v w z : Written) → Extends v w → w.instrs ≡ v.instrs → Extends w z → z.instrs ≡ w.instrs → Extends v z × (size z ≡ size v)
label_on v w z a e b f = (extends_on v w z a b, ap length (f ∙ e))

pub label_stands : (v u w : Written) (label : ℕ) → u.instrs ≡ v.instrs → IsAt w label (size u) → HasLabelAt w (size v)
label_stands v u w label e at = record { label = label; placed = subst (IsAt w label) (ap length e) at }

pub ruleset forgetting = (loses_same, same_extends, label_on, label_stands)
