-- The part from a line's start to its line feed is that line.
use native.Mathlib.Omega.{arith}
use mathlib.Core.Path.{refl}
use Rattle.lines.proofs.Parts.{ticket_line, listing_line, within, handed_ticket, handed_listing}
use Rattle.lines.proofs.storage_line.Goals as goal

pub slice_bounds-result-end : goal.slice_bounds-result-end
slice_bounds-result-end c = omega (arith, within (ticket_line _ _ _ _ _ (rw c.in-Some-Ticket.field-0-is at c.in-Some-Ticket.ensures)))

pub slice_bounds-result-end-in-Some-Listing : goal.slice_bounds-result-end-in-Some-Listing
slice_bounds-result-end-in-Some-Listing c = omega (arith, within (listing_line _ _ _ _ _ (rw c.in-Some-Listing.field-0-is at c.in-Some-Listing.ensures)))

pub returns-in-Some-Ticket : goal.returns-in-Some-Ticket
returns-in-Some-Ticket c = handed_ticket _ _ _ _ _ _ (ticket_line _ _ _ _ _ (rw c.in-Some-Ticket.field-0-is at c.in-Some-Ticket.ensures)) refl refl refl

pub returns-in-Some-Listing : goal.returns-in-Some-Listing
returns-in-Some-Listing c = handed_listing _ _ _ _ _ _ (listing_line _ _ _ _ _ (rw c.in-Some-Listing.field-0-is at c.in-Some-Listing.ensures)) refl refl refl
