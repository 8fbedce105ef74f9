-- What goes out for an accepted table, message by message. Assumes nothing.
use Rattle.std.specs.Prelude.{◌≡◌, refl, ◌⊎◌, Bool, true, cond, not, ◌&&◌, List, [], ◌∷◌, ℕ, ◌≤◌, ◌<◌, ltb, eqb, ℤ}
use Rattle.std.proofs.Common.{sym, ◌∙◌, ap, inl, inr, arith}
use Rattle.std.proofs.Math.Path.{subst}
use Rattle.std.proofs.Math.Bool.{false}
use borrow.Author.Tests.{leb-true, leb-false, eqb-true, lt-ltb, le-ltb}
use Rattle.std.proofs.Math.Dec.{leb}
use Rattle.std.proofs.Math.ListN.{length}
use Rattle.definitions.specs.Tables.{Table, crc}
use Rattle.definitions.specs.Deltas.{Delta, is_empty_delta, delta_ints}
use Rattle.definitions.specs.Packed.{pack_ints}
use Rattle.definitions.specs.Messages.{SnapSingle, Message, num_parts, part_message, delta_chunks, distance}
use Rattle.definitions.specs.Manager.{empty_delta}
use Rattle.laws.specs.DeltaLaws.{delta-packs, empty-packs}
use Rattle.laws.specs.SessionLaws.{empty-is}
use Rattle.laws.specs.ListLaws.{among-nothing, among-append, among_one, among-list}
use Rattle.session.specs.Runs.{Accepted, packed, chunks_of, empty_message, messages_of}
use Rattle.session.specs.Statement.{Among, Base, carries, Carried}
use Rattle.session.specs.Lists.{either}

module _ (sizes : List ℤ) (instead : ℤ → Bool) where
  -- whether a table's tick takes several messages
  unfoldable pub is_large : Accepted → Bool
  is_large a = not (instead a.tick) && ltb 900 (length (packed sizes a))

  -- how many parts finish a table's tick
  unfoldable pub parts_needed : Accepted → ℕ
  parts_needed a = cond (is_large a) (num_parts (packed sizes a)) 1

  -- part p of a table
  abbrev pub part_of_table : Accepted → ℕ → Message
  part_of_table a p = part_message a.tick (distance a.tick a.base) (packed sizes a) (crc a.table) p

  -- the single message of a table
  abbrev pub single_of_table : Accepted → Message
  single_of_table a =
      record {
        numbers = SnapSingle a.tick (distance a.tick a.base) (crc a.table);
        bytes = packed sizes a;
      }

  -- a message of a table: a part of several, the single one, or the empty one
  pub data Goes (At : ℤ → Table → Type 0) (a : Accepted) : Message → Type 0 where
    as_part : (p : ℕ) → is_large a ≡ true → p < num_parts (packed sizes a) → Carried sizes a → Goes At a (part_of_table a p)
    as_single : is_large a ≡ false → length (packed sizes a) ≤ 900 → Carried sizes a → Goes At a (single_of_table a)
    as_empty : is_large a ≡ false → Base At a.base a.table ⊎ (a.delta ≡ empty_delta) → Goes At a (empty_message a)

  -- an empty delta fits one message
  empty-short : (a : Accepted) → is_empty_delta a.delta ≡ true → length (packed sizes a) ≤ 900
  empty-short a e =
      let z : packed sizes a ≡ 0 ∷ 0 ∷ 0 ∷ [] = ap (λ (d : Delta). pack_ints (delta_ints sizes d)) (empty-is a.delta e) ∙ empty-packs sizes in
      rw z (omega arith)

  -- each message of a table's delta
  chunk-goes : (At : ℤ → Table → Type 0) (a : Accepted) (m : Message) → instead a.tick ≡ false → (carries m.numbers ≡ true → Carried sizes a) → Among m (chunks_of sizes a) → Goes At a m
  unfolding delta_chunks is_large
  chunk-goes At a m q c h =
      either (eqb (length (packed sizes a)) 0)
      (λ u. absurd (omega (arith, eqb-true (length (packed sizes a)) 0 u, delta-packs sizes a.delta)))
      (λ u.
      either (leb (length (packed sizes a)) 900)
      (λ v.
      let w : length (packed sizes a) ≤ 900 = leb-true (length (packed sizes a)) 900 v in
      let e : m ≡ single_of_table a = among_one (rw (u, v) at h) in
      subst (Goes At a) (sym e) (as_single (rw (q, le-ltb 900 (length (packed sizes a)) w) refl) w (c (ap (λ (x : Message). carries x.numbers) e))))
      (λ v. part v (among-list (part_of_table a) (num_parts (packed sizes a)) m (rw (u, v) at h))))
    where
      part : leb (length (packed sizes a)) 900 ≡ false → (p : ℕ) × (p < num_parts (packed sizes a)) × (m ≡ part_of_table a p) → Goes At a m
      part v (p, u, f) =
          unfold is_large in
          subst (Goes At a) (sym f) (as_part p (rw (q, lt-ltb 900 (length (packed sizes a)) (leb-false (length (packed sizes a)) 900 v)) refl) u (c (ap (λ (x : Message). carries x.numbers) f)))

  -- each message of a table is one of these
  pub message-goes : (At : ℤ → Table → Type 0) (a : Accepted) (m : Message) → (instead a.tick ≡ true → Base At a.base a.table) → (carries m.numbers ≡ true → Carried sizes a) → Among m (messages_of sizes instead a) → Goes At a m
  unfolding messages_of
  message-goes At a m q c h =
      either (instead a.tick)
      (λ e. subst (Goes At a) (sym (among_one (rw e at h))) (as_empty (unfold is_large in rw e refl) (inl (q e))))
      (λ e. go e (among-append (chunks_of sizes a) (rw e at h)))
    where
      go : instead a.tick ≡ false → Among m (chunks_of sizes a) ⊎ Among m (cond (is_empty_delta a.delta) (empty_message a ∷ []) []) → Goes At a m
      go e (inl k) = chunk-goes At a m e c k
      go e (inr k) =
          either (is_empty_delta a.delta)
          (λ z.
          unfold is_large in
          subst (Goes At a) (sym (among_one (rw z at k)))
          (as_empty (rw (e, le-ltb 900 (length (packed sizes a)) (empty-short a z)) refl) (inr (empty-is a.delta z))))
          (λ z. absurd (among-nothing (rw z at k)))
