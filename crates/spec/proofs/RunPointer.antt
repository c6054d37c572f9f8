-- THE STEP of addresses, functions' numbers, and a pointer plus an offset.
use Prim.Native.Nat.{ℕ, zero, suc, ◌+◌, ◌/◌, ◌%◌, ◌≤◌}
use mathlib.Core.Bool.{Bool, true, false, not}
use mathlib.Core.List.{List, [], ◌∷◌}
use Rattle.std.specs.Prelude.{Some}
use mathlib.Core.Path.{◌≡◌, refl, sym, ap, ◌∙◌}
use native.Mathlib.Omega.{arith}
use native.Mathlib.Nat.{le_refl, le_trans}
use lib.Dec.{leb}
use lib.ListN.{length, take}
use Rattle.spec.specs.Hir.{Place}
use Rattle.spec.specs.Ticket.{Tables, storage_at, PlacedLine}
use Rattle.spec.specs.Readable.{TypesRight}
use Rattle.spec.specs.Lir.{ByteOperand, value, bytes_value}
use Rattle.spec.specs.Operands.{value_bytes, resize, nth}
use Rattle.spec.specs.Allocation.{type_size, bytes_from, bytes_at, location_bytes}
use Rattle.spec.specs.Places.{Base, is_one}
use Rattle.spec.specs.ReadBytes.{read_plain, read_word, read_bytes_as_type, read_location}
use Rattle.spec.specs.Arithmetic.{adds, first_storage}
use Rattle.spec.specs.Select.{second_storage, require_addressable, materialize_location_address, lower_address_of, lower_static_address, lower_function_address, lower_pointer_offset}
use Rattle.spec.specs.Machine.{Memory, Given, bytes_of, operand, operands, set_byte, defined, effect}
use Rattle.spec.specs.Eval.{number, based}
use Rattle.spec.proofs.RunWords.{length_bytes_of, bytes_of_mod, ripple_bytes, adding, resized, size}
use Rattle.spec.proofs.RunLaws.{room_le}
use Rattle.spec.proofs.RunRuns.{total_zip}
use Rattle.spec.proofs.Lengths.{length_bytes_from}
use Rattle.spec.proofs.RunFrames.{agree_refl, agree_byte, fixed_stored, Left, left_cons, set_beside, set_here, at, loop_run, add_loop, resize_run}
use Rattle.spec.proofs.RunHoare.{From, ◌then◌, ◌next◌, ending, Is, it, emitting, emitting_one, purely, got, at_it, requiring, allocates_carry}
use Rattle.spec.proofs.RunTyping.{has_pointer, pointer_size}
use Rattle.spec.proofs.RunValues.{Word, of_bytes, Gives}
use Rattle.spec.proofs.RunSteps.{at_next, temporary_at}
use Rattle.spec.specs.RunNeeds.{NeedsOf}
use Rattle.spec.proofs.RunPlaces.{quiet_base, quiet_from}

operands_take : (k : ℕ) (M : Memory) (bs : List ByteOperand) → operands M (take k bs) ≡ take k (operands M bs)
operands_take zero M bs = refl
operands_take (suc k) M [] = refl
operands_take (suc k) M (b ∷ bs) = ap (λ (l : List ℕ). operand M b ∷ l) (operands_take k M bs)

take_2 : (p : ℕ) → take 2 (bytes_of 2 p) ≡ bytes_of 2 p
unfolding bytes_of
take_2 p = refl

module _ (G : Given) (T : Tables) (R : TypesRight T) where
  destinations : {n : ℕ} {M : Memory} (D : ℕ) → From G n M (location_bytes T (at_next 1 D)) (Is (bytes_from D 0 2) n M)
  unfolding location_bytes bytes_at type_size
  destinations D = rw (pointer_size T R) (purely G _)

  -- the pointer's two bytes, read back
  pointed : {n n' : ℕ} {M M' : Memory} (x : ℕ) → suc n ≤ n' → Left n n 0 2 M M' (bytes_of 2 x) → From G n' M' (read_location T (at_next 1 n)) (Gives T n M 1 (number 2 (x % 65536)))
  unfolding read_location read_bytes_as_type read_word read_plain type_size
  pointed {n} {n'} {M} {M'} x h L =
      rw (R.pointer_second, pointer_size T R) (ending G (purely G _) (record {
        later = le_trans (omega arith) h;
        agree = L.agree;
        typed = refl;
        has = has_pointer T R (x % 65536) (omega arith);
        denotes = of_bytes (fixed_stored n' n h 2 0 M' _ (L.written ∙ sym (bytes_of_mod 2 x)));
      }))

  two_bytes : {n : ℕ} {M : Memory} (x : ℕ) → Left n n 0 2 M (set_byte (at n 1) (x / 256 % 256) (set_byte (at n 0) (x % 256) M)) (bytes_of 2 x)
  unfolding bytes_of bytes_from
  two_bytes {n} {M} x =
      left_cons (agree_byte (at n 0) _ M (le_refl n)) (λ p l. absurd (omega arith)) (set_here (at n 0) _ M)
      (left_cons (agree_byte (at n 1) _ _ (le_refl n)) (λ p l. set_beside (at n 1) _ _ p (λ e. omega arith)) (set_here (at n 1) _ _)
      (record { agree = agree_refl; below = λ p _. refl; written = refl }))

  pub function_step : {n : ℕ} {M : Memory} (f : ℕ) → From G n M (lower_function_address T f) (Gives T n M 1 (number 2 (G.function f % 65536)))
  unfolding lower_function_address defined effect first_storage second_storage bytes_from
  function_step f = ◌then◌ G (temporary_at G T 0) (at_it G (◌then◌ G (destinations _) (at_it G (◌next◌ G (emitting_one G _ refl) (at_it G (pointed (G.function f) (omega arith) (two_bytes (G.function f))))))))

  narrowing : {n : ℕ} {M : Memory} (s : ℕ) → From G n M (require_addressable T s) (Is tt n M)
  unfolding require_addressable
  narrowing {n} {M} s = go (is_one (storage_at T s).owner) refl
    where
      go : (t : Bool) → is_one (storage_at T s).owner ≡ t → From G n M (require_addressable T s) (Is tt n M)
      go true e = rw e (record { leads = λ h t. record { means = tt; left = it } })
      go false e = rw e (purely G tt)

  pub address_step : {n : ℕ} {M : Memory} (s o : ℕ) (b : Bool) → From G n M (materialize_location_address T s b o) (Gives T n M 1 (number 2 ((G.base s + o) % 65536)))
  unfolding materialize_location_address defined effect first_storage second_storage bytes_from
  address_step {n} {M} s o b =
      ◌next◌ G (requiring G 21 (not b)) (at_it G (◌next◌ G (narrowing s) (at_it G
      (◌then◌ G (temporary_at G T 0) (at_it G (◌then◌ G (destinations _) (at_it G (◌next◌ G (emitting_one G _ refl) (at_it G (pointed (G.base s + o) (omega arith) (two_bytes (G.base s + o))))))))))))

  pub offset_step : {v n p a : ℕ} {M : Memory} (base offset : List ByteOperand) (t₁ t₂ : ℕ) → Word 16 n M base p → Word v n M offset a
      → From G n M (lower_pointer_offset T (value t₁ (bytes_value base)) (value t₂ (bytes_value offset))) (Gives T n M 1 (number 2 ((p + a) % 65536)))
  unfolding lower_pointer_offset value_bytes adds
  offset_step {v} {n} {p} {a} {M} base offset t₁ t₂ hb ho =
      let L = add_loop G n (length (bytes_from n 0 2)) (suc n) (omega arith) in
      ◌then◌ G (got G 24 base) (at_it G (◌then◌ G (got G 24 offset) (at_it G (◌next◌ G (requiring G 25 (leb 2 (length base))) (at_it G
      (◌then◌ G (temporary_at G T 0) (at_it G (◌then◌ G (destinations _) (at_it G (◌then◌ G (allocates_carry G _) (at_it G
      (◌next◌ G (emitting G _ (total_zip _ L.total 0 _ _ _)) (at_it G (pointed (p + a) (omega arith)
      (rw (ripple_bytes adding 2 0 p a (p + a) (omega arith)) at
      (loop_run G L (le_refl n) 2 0 0 0 (bytes_of 2 p) (bytes_of 2 a) (take 2 base) (resize 2 offset) M (omega (arith, length_bytes_from n 0 2))
      (record { holds = λ M' q. operands_take 2 M' base ∙ ap (take 2) (hb.fixed.holds M' q) ∙ take_2 p })
      (record { holds = λ M' q. resize_run 2 M' offset ∙ resized 2 (size v) a _ (ho.fixed.holds M' q) (le_trans ho.fits (room_le v)) })
      (length_bytes_of 2 p) (length_bytes_of 2 a) (λ _. refl)))))))))))))))))

  -- the static's number alone decides the storage
  pub static_step : {n : ℕ} {M : Memory} (k o : ℕ) (p : PlacedLine) → nth T.statics k ≡ Some p
      → From G n M (lower_static_address T k o) (Gives T n M 1 (number 2 ((G.base p.storage + o) % 65536)))
  unfolding lower_static_address
  static_step k o p e = rw e (◌then◌ G (got G 20 p) (at_it G (address_step p.storage o (is_one p.bit))))

  pub address_of_step : NeedsOf T → {n : ℕ} {M : Memory} (p : Place) (b : Base) → based T p ≡ Some b
      → From G n M (lower_address_of T p) (Gives T n M 1 (number 2 ((G.base b.storage + b.offset) % 65536)))
  unfolding lower_address_of based
  address_of_step N p b e = ◌then◌ G (quiet_from G b (quiet_base T N p) e) (at_it G (address_step _ _ _))
