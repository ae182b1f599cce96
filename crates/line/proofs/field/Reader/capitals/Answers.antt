-- The capitals of a field are the bytes between its space and what is left.
use Rattle.std.proofs.Common.{◌≡◌, ◌+◌, length, arith}
use Rattle.line.specs.Lines.{field}
use Rattle.line.proofs.Parted.{shorter, capitals_are, capitals_none}
use Rattle.line.proofs.field.Reader.capitals.Goals as goal

less : (c : goal.In-Risen) → length c.args.self.now.left.now ≡ 1 + (length (field c.args.self.now.left.now) + length c.field.new.self.left.now)
less c = shorter _ _ _ c.field.ensures.state c.field.ensures.left c.in-Risen.field-0 c.in-Risen.is

pub overflow_sub-result : goal.overflow_sub-result
overflow_sub-result c = omega (arith, less c)

pub slice_bounds-result-count : goal.slice_bounds-result-count
slice_bounds-result-count c = omega (arith, less c)

pub slice_bounds-result-start : goal.slice_bounds-result-start
slice_bounds-result-start c = omega (arith, shorter c.args.self.now.left.now c.field.new.self.left.now c.field.new.self.state c.field.ensures.state c.field.ensures.left c.in-Risen.field-0 c.in-Risen.is)

pub returns-in-Risen : goal.returns-in-Risen
returns-in-Risen c = record { value = capitals_are _ _ _ c.field.ensures.state c.field.ensures.left c.in-Risen.field-0 c.in-Risen.is; left = c.field.ensures.left }

pub returns-in_default : goal.returns-in_default
returns-in_default c = record { value = capitals_none _ _ _ c.field.ensures.state c.field.ensures.left c.in_default.not-Risen; left = c.field.ensures.left }
