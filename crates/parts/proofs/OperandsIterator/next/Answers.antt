-- The same operands are left at every turn, until one is given.
use Rattle.std.proofs.Common.{◌≡◌, ◌<◌, length, drop, sym, ap, ◌∙◌, arith, rules}
use Rattle.std.proofs.lemmas.List.{take_rest}
use Rattle.parts.proofs.Nexts.{left_more, left_opened, left_none, ready_next}
use Rattle.parts.proofs.OperandsIterator.next.Goals as goal

pub returns-in-Some-clause-steps : goal.returns-in-Some-clause-steps
returns-in-Some-clause-steps c =
    let o = c.loop-operand.self-inside in
    sym c.loop-operand.invariant.1 ∙ left_more o.value o.index o.records.now c.in-Some.operand c.operand_at.ensures.gives c.in-Some.is

pub returns-in-Some-clause-goes : goal.returns-in-Some-clause-goes
returns-in-Some-clause-goes c =
    let o = c.loop-operand.self-inside in
    let shorter = ap length (sym c.loop-operand.invariant.1 ∙ left_more o.value o.index o.records.now c.in-Some.operand c.operand_at.ensures.gives c.in-Some.is) in
    search rules

pub returns-in_err-records-clause-steps : goal.returns-in_err-records-clause-steps
returns-in_err-records-clause-steps c =
    let o = c.loop-operand.self-inside in
    let h = c.in_err-records.ensures.lookup in
    let none = left_none o.value o.index o.records.now c.operand_at.ensures.gives c.in_default.is c.loop-operand.invariant.0.records (omega (arith, h)) in
    rw c.from_residual.ensures (sym c.loop-operand.invariant.1 ∙ none, none)

pub loop-operand-preserved : goal.loop-operand-preserved
loop-operand-preserved c =
    let o = c.loop-operand.self-inside in
    let ready = c.loop-operand.invariant.0 in
    let h = c.in_ok-records.ensures.lookup.0 in
    let some : 0 < length o.records.now = omega (arith, h.0) in
    let e : c.in_ok-records.records.now ≡ drop 8 o.records.now = h.2 ∙ take_rest o.records.now 8 in
    rw (c.value_at-self-inside.ensures, e) (ready_next ready some, sym (left_opened o.value o.index o.records.now c.operand_at.ensures.gives c.in_default.is ready.records some) ∙ c.loop-operand.invariant.1)
