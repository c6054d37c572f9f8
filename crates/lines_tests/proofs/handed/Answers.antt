-- The bytes handed back, and the refusal.
use Rattle.lines_tests.proofs.Laws.{bytes_are, number_ok, number_err}
use Rattle.lines_tests.proofs.handed.Goals as goal

pub returns-then-refusal-eq0 : goal.returns-then-refusal-eq0
returns-then-refusal-eq0 c =
    record {
      bytes_are = λ t. bytes_are _ _ _ _ _ _ c.storage_part.ensures c.same.ensures c.if-not-same.false;
      number_is = λ t. number_ok _ _ _ _ _ c.in-Ok.ensures c.if-refusal-eq0.true;
    }

pub returns-in-Err : goal.returns-in-Err
returns-in-Err c =
    record {
      bytes_are = λ t. bytes_are _ _ _ _ _ _ c.storage_part.ensures c.same.ensures c.if-not-same.false;
      number_is = λ t. number_err _ _ _ _ _ _ _ c.in-Err.ensures c.number.ensures c.eq.ensures t;
    }
