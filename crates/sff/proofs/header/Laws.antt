-- The header, from the answers of its parts.
use Prim.Native.Nat.{ℕ, ◌+◌, ◌≤◌, ◌<◌}
use mathlib.Core.Path.{◌≡◌, subst}
use mathlib.Core.List.{List}
use native.Mathlib.Omega.{arith}
use lib.ListN.{length, take}
use Rattle.reading.specs.Number.{be}
use Rattle.reading.specs.Check.{Test, Outcome, passed, failed, short, ok, run, answer}
use Rattle.reading.proofs.Steps.{run_bind, run_done, run_need_present, run_need_absent}
use Rattle.reading.proofs.Passed.{bind_ok, must_ok, need_ok, done_ok}
use Rattle.reading.proofs.Signed.{equal_to_is}
use Rattle.sff_fields.specs.declared.header.Header.{Header}
use Rattle.sff_fields.specs.Padding.{padded}
use Rattle.sff_fields.specs.Header.{length_check, front_check}
use Rattle.sff_fields.proofs.padding.Laws.{padded_bounds}
use Rattle.sff.specs.Header.{header_of, header}

-- the header's fields, and what their tests find
abbrev pub fields : List ℕ → Header
fields s = header_of (take 31 s)

abbrev pub tested : List ℕ → Outcome (Unit {0})
tested s = run (front_check (be 4 (take 31 s) 0) (be 4 (take 31 s) 4) (be 1 (take 31 s) 30) (fields s)) s

module _ (s : List ℕ) where
  pub header_short : length s < 31 → short (record { start = 0; end = 31 }) 0 ≡ run header s
  unfolding header
  header_short h = simp (run_bind, run_need_absent 0 31 s h)

  module _ (h : 31 ≤ length s) where
    pub header_bad : (t : Test) → failed t 0 ≡ tested s → failed t 0 ≡ run header s
    unfolding header
    header_bad t m = simp (run_need_present 0 31 s h, run_bind, ← m)

    module _ (m : passed tt ≡ tested s) where
      pub header_cut : length s < (fields s).header_length → short (record { start = 0; end = (fields s).header_length }) 0 ≡ run header s
      unfolding header
      header_cut l = simp (run_need_present 0 31 s h, run_bind, ← m, run_need_absent 0 (fields s).header_length s l)

      pub header_good : (fields s).header_length ≤ length s → passed (fields s) ≡ run header s
      unfolding header
      header_good l = simp (run_need_present 0 31 s h, run_bind, ← m, run_need_present 0 (fields s).header_length s l, run_done)

-- a header that was answered is there
pub header_there : (s : List ℕ) (d : Header) → answer header s ≡ ok d → d.header_length ≤ length s
unfolding header
header_there s d w =
    let a = bind_ok _ _ s d w in
    let b = bind_ok _ _ s d a.2 in
    let f = bind_ok _ _ s d b.2 in
    subst (λ (x : Header). x.header_length ≤ length s) (done_ok _ _ s f.2) (need_ok _ _ s f.0 f.1).0

-- and its length is at least that of the fields in front
pub header_known : (s : List ℕ) (d : Header) → answer header s ≡ ok d → 31 ≤ d.header_length
unfolding header front_check length_check
header_known s d w =
    let a = bind_ok _ _ s d w in
    let b = bind_ok _ _ s d a.2 in
    let f = bind_ok _ _ s d b.2 in
    let c = bind_ok _ _ s b.0 b.1 in
    let e = bind_ok _ _ s b.0 c.2 in
    let u = bind_ok _ _ s e.0 e.1 in
    let z = header_of a.0 in
    let n : z.header_length ≡ padded (31 + z.flows + z.key_length) = equal_to_is _ _ (must_ok _ _ 4 s e.0 u.2) in
    let h = padded_bounds (31 + z.flows + z.key_length) in
    subst (λ (x : Header). 31 ≤ x.header_length) (done_ok _ d s f.2) (omega (arith, n, h))
