-- When words lent are too few.
use Rattle.std.specs.Prelude.{ℕ, ◌*◌, ◌/◌, ◌≤◌, ◌<◌, ◌≡◌, ◌⊎◌, List, length}
use Rattle.spec.specs.Limits.{text_limit, storage_lines, weight_sum_limit}
use Rattle.spec.specs.Ticket.{Tables}
use Rattle.spec.specs.Read.{read_ticket, accepted}
use Rattle.line_checks.specs.Rows.{rows_length}
use Rattle.sections.specs.Sections.{all_weights}

-- fewer marks than storages, or fewer than eight words of stack for each record of the nodes' values
abbrev pub FewWords : Tables → ℕ → ℕ → Type 0
FewWords T marks stack = (marks < length T.storages) ⊎ (stack < 8 * all_weights T)

-- the same of a ticket that is read
pub record FewRead (ticket : List ℕ) (marks stack : ℕ) : Type 0 where
  pub tables : Tables
  pub is : read_ticket ticket ≡ accepted tables
  pub few : FewWords tables marks stack

-- or the lists have less than a word for two bytes of a ticket that is not too long
abbrev pub Short : List ℕ → ℕ → ℕ → ℕ → Type 0
Short ticket lists marks stack = ((length ticket ≤ text_limit) × (lists * 2 < length ticket)) ⊎ FewRead ticket marks stack

-- rows that are enough for some tickets, and not for all
abbrev pub FewRows : ℕ → Type 0
FewRows rows = rows < rows_length

-- words that are enough for every ticket; `rows_length` are so of rows
abbrev pub lists_length : ℕ
lists_length = text_limit / 2

abbrev pub marks_length : ℕ
marks_length = storage_lines

abbrev pub stack_length : ℕ
stack_length = weight_sum_limit * 8
