use mathlib.Core.Path.{refl, ◌∙◌, ap}
use native.Mathlib.Omega.{arith}
use lib.IntN.{pos}
use mir.Syntax.{w8, w16, w32, w64}
use mir.Facts.{to_z_pos}
use borrow.Author.Rules.{rules}
use Rattle.reading.specs.Number.{signed}
use Rattle.reading.proofs.Signs.{widened, signed_cast}
use Rattle.reading.proofs.Width.{be_part}
use Rattle.abif.specs.Entry.{type_of}
use Rattle.abif_elements.proofs.element.Laws.{whole_one, whole_char, whole_word, whole_short, whole_long, whole_byte}
use Rattle.abif_elements.proofs.element.whole_at.Goals as goal

pub slice_bounds-byte-end : goal.slice_bounds-byte-end
unfolding type_of
slice_bounds-byte-end c = rw c.in-1.is at c.requires

pub slice_bounds-byte-end-in-2 : goal.slice_bounds-byte-end-in-2
unfolding type_of
slice_bounds-byte-end-in-2 c = rw c.in-2.is at c.requires

pub slice_bounds-be16-end : goal.slice_bounds-be16-end
unfolding type_of
slice_bounds-be16-end c = rw c.in-3.is at c.requires

pub slice_bounds-be16-end-in-4 : goal.slice_bounds-be16-end-in-4
unfolding type_of
slice_bounds-be16-end-in-4 c = rw c.in-4.is at c.requires

pub slice_bounds-be32-end : goal.slice_bounds-be32-end
unfolding type_of
slice_bounds-be32-end c = rw c.in-5.is at c.requires

pub returns-in-1 : goal.returns-in-1
returns-in-1 c =
    let g = c.args in
    to_z_pos w64 (omega arith) ∙ ap pos (c.byte.ensures ∙ be_part 1 g.p g.l.now) ∙ whole_one g.l.now g.p g.code c.in-1.is

pub returns-in-2 : goal.returns-in-2
returns-in-2 c =
    let g = c.args in
    widened w8 w64 _ tt (search rules) ∙ c.cast_signed.ensures ∙ signed_cast w8 1 c.byte-in-2.result refl refl ∙ ap (signed 1) (c.byte-in-2.ensures ∙ be_part 1 g.p g.l.now) ∙ whole_char g.l.now g.p g.code c.in-2.is

pub returns-in-3 : goal.returns-in-3
returns-in-3 c =
    let g = c.args in
    to_z_pos w64 (omega arith) ∙ ap pos (c.be16.ensures ∙ be_part 2 g.p g.l.now) ∙ whole_word g.l.now g.p g.code c.in-3.is

pub returns-in-4 : goal.returns-in-4
returns-in-4 c =
    let g = c.args in
    widened w16 w64 _ tt (search rules) ∙ c.cast_signed-in-4.ensures ∙ signed_cast w16 2 c.be16-in-4.result refl refl ∙ ap (signed 2) (c.be16-in-4.ensures ∙ be_part 2 g.p g.l.now) ∙ whole_short g.l.now g.p g.code c.in-4.is

pub returns-in-5 : goal.returns-in-5
returns-in-5 c =
    let g = c.args in
    widened w32 w64 _ tt (search rules) ∙ c.cast_signed-in-5.ensures ∙ signed_cast w32 4 c.be32.result refl refl ∙ ap (signed 4) (c.be32.ensures ∙ be_part 4 g.p g.l.now) ∙ whole_long g.l.now g.p g.code c.in-5.is

pub returns-in_default : goal.returns-in_default
returns-in_default c =
    let g = c.args in
    to_z_pos w64 (omega arith) ∙ ap pos c.byte-in_default.ensures ∙ whole_byte g.l.now g.p g.code (λ e. omega arith) (λ e. omega arith) (λ e. omega arith) (λ e. omega arith) (λ e. omega arith)
