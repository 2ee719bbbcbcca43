use Prim.Native.Nat.{◌-◌, ◌≤◌}
use mathlib.Core.Path.{◌≡◌, sym, subst}
use native.Mathlib.Omega.{arith}
use lib.ListN.{length, length-take, length-drop}
use Rattle.reading.specs.Check.{ok, answer}
use Rattle.sff.specs.Walk.{walk}
use Rattle.sff.specs.declared.walk.Boundary.{Boundary}
use Rattle.sff.proofs.reads.Laws.{halves, halves_written}
use Rattle.sff.proofs.reads.put_halves.Goals as goal

pub put_pairs-behind-requires : goal.put_pairs-behind-requires
put_pairs-behind-requires c = let g = c.args in
    let p = c.requires in
    let a = halves g.file.header g.file.bytes.now g.m g.n g.b g.c p.2 p.4.0 p.4.1 p.4.2 p.5.0 p.5.1 in
    (p.0, p.1, omega arith, (a.one, a.one_ok), (a.other, a.other_ok))

pub put_reads-requires : goal.put_reads-requires
put_reads-requires c = let g = c.args in
    let p = c.requires in
    let a = halves g.file.header g.file.bytes.now g.m g.n g.b g.c p.2 p.4.0 p.4.1 p.4.2 p.5.0 p.5.1 in
    let e = sym (c.put_pairs-behind.ensures.value a.other a.other_ok) in
    (subst (λ (x : Boundary). x.position ≤ length g.file.bytes.now) e (a.within p.1), simp (length-take, length-drop) (omega arith), (a.rest, subst (λ (x : Boundary). answer (walk g.file.header (g.n - g.m - g.m) 0 x) g.file.bytes.now ≡ ok a.rest) e a.rest_ok))

pub returns : goal.returns
returns c = λ w h.
    let g = c.args in
    let p = c.requires in
    let a = halves g.file.header g.file.bytes.now g.m g.n g.b g.c p.2 p.4.0 p.4.1 p.4.2 p.5.0 p.5.1 in
    let e = sym (c.put_pairs-behind.ensures.value a.other a.other_ok) in
    let x = c.put_pairs-behind.ensures.out_after a.one a.other a.one_ok a.other_ok in
    let y = c.put_reads.ensures a.rest (subst (λ (v : Boundary). answer (walk g.file.header (g.n - g.m - g.m) 0 v) g.file.bytes.now ≡ ok a.rest) e a.rest_ok) in
    halves_written g.file.header g.file.bytes.now g.m g.n g.b g.c a p.2 g.out.now _ _ (omega arith) x y w h
