-- The ticket put piece by piece, its length, and the answer where the buffer has room for it or has not.
use Prim.Native.Nat.{ℕ, ◌+◌, ◌^◌, ◌≤◌, ◌<◌}
use mathlib.Core.Path.{◌≡◌, refl, ◌∙◌}
use mathlib.Core.List.{List, ◌∷◌, ◌++◌, append-nil, append_assoc, []}
use native.Mathlib.Omega.{arith}
use lib.ListN.{length, length-append}
use Rattle.spec.specs.Text.{bytes, text, fields, line, line_feed, digits}
use Rattle.spec.specs.Answer.{left_in}
use Rattle.text.specs.Put.{Put, sat_below}
use Rattle.text.proofs.Front.{digits_length, in_front}
use Rattle.text.specs.Writes.{Writes, writes_then}
use Rattle.text.specs.declared.writer.Writer.{Writer}
use Rattle.std.specs.Prelude.{Ok, Err}
use Rattle.valves.specs.Tickets.{bytes_for, types_text, storage_text, nodes_text, ticket_text}
use Rattle.valves.specs.Shown.{Written}
use Rattle.valves.specs.declared.refusal.Refusal.{Refusal}

-- ---------------------------------------------------------------- the pieces

module _ {w w1 w2 w3 : Writer} where
  pub types_put : (n : ℕ) → Writes w (text ("f,0,0" ∷ "t,bool" ∷ "t,pointer" ∷ []) ++ bytes "t,bits,") w1 → Writes w1 (digits n) w2 → Writes w2 (line_feed ∷ []) w3
      → Writes w (types_text n) w3
  unfolding types_text line fields
  types_put n a b c = rw (append-nil (digits n)) (writes_then (writes_then a b) c)

  pub storage_put : (n k : ℕ) → k ≡ bytes_for n → Writes w (bytes "s,2,") w1 → Writes w1 (digits k) w2 → Writes w2 (text (",1,36" ∷ [])) w3 → Writes w (storage_text n) w3
  unfolding storage_text line fields
  storage_put n k e a b c = rw (← e, append_assoc (digits k) (bytes ",1,36") (line_feed ∷ [])) (writes_then (writes_then a b) c)

  pub nodes_put : (m : ℕ) → Writes w (text ("v,0,0,2,0" ∷ "p,variable,0" ∷ "n,2,read,0" ∷ []) ++ bytes "n,2,int,") w1 → Writes w1 (digits m) w2
      → Writes w2 (line_feed ∷ text ("n,2,binary,8,0,1" ∷ [])) w3 → Writes w (nodes_text m) w3
  unfolding nodes_text line fields
  nodes_put m a b c =
      rw (append-nil (digits m), append_assoc (digits m) (line_feed ∷ []) (text ("n,2,binary,8,0,1" ∷ []))) (writes_then (writes_then a b) c)

-- ---------------------------------------------------------------- the length

-- a number below 2 ^ 64 has at most 20 digits, so a ticket is short
pub ticket_short : (n m : ℕ) → n ≤ 64 → m < 2 ^ 64 → length (ticket_text n m) ≤ 200
unfolding ticket_text types_text storage_text nodes_text line fields
ticket_short n m h g =
    let a = digits_length n 19 (omega arith) in
    let b = digits_length (bytes_for n) 19 (omega arith) in
    let c = digits_length m 19 (omega arith) in
    simp length-append (omega arith)

-- ---------------------------------------------------------------- the answer

module _ (x l : List ℕ) (short : length x ≤ 200) {s s' : List ℕ} {e : ℕ} (p : Put s 0 x s' e) where
  pub long : e ≡ length x
  long = p.next ∙ sat_below (0 + length x) (omega arith) ∙ omega arith

  pub no_room : length l < e → Written x l l (Err Refusal.LongTicket)
  no_room h = (refl, omega (arith, long), refl)

  pub room : e ≤ length l → {l' : List ℕ} {r : ℕ} → Put l 0 x l' r → Written x l l' (Ok r)
  unfolding left_in
  room h {l'} {r} a =
      let g : length x ≤ length l = omega (arith, long) in
      let f = in_front a g in
      (f.0, g, f.1)
