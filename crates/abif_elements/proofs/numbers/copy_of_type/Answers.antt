use mathlib.Core.Path.{◌≡◌, refl, ◌∙◌}
use Rattle.abif.specs.Entry.{type_of}
use Rattle.abif_elements.proofs.numbers.copy_of_type.Goals as goal

pub copy-requires : goal.copy-requires
unfolding type_of
copy-requires c = let e : c.args.w ≡ 1 = c.requires.0 ∙ rw c.in-1.is in
    (refl, rw e at c.requires.1)

pub copy-requires-in-2 : goal.copy-requires-in-2
unfolding type_of
copy-requires-in-2 c = let e : c.args.w ≡ 1 = c.requires.0 ∙ rw c.in-2.is in
    (refl, rw e at c.requires.1)

pub copy-requires-in-3 : goal.copy-requires-in-3
unfolding type_of
copy-requires-in-3 c = let e : c.args.w ≡ 2 = c.requires.0 ∙ rw c.in-3.is in
    (refl, rw e at c.requires.1)

pub copy-requires-in-4 : goal.copy-requires-in-4
unfolding type_of
copy-requires-in-4 c = let e : c.args.w ≡ 2 = c.requires.0 ∙ rw c.in-4.is in
    (refl, rw e at c.requires.1)

pub copy-requires-in-5 : goal.copy-requires-in-5
unfolding type_of
copy-requires-in-5 c = let e : c.args.w ≡ 4 = c.requires.0 ∙ rw c.in-5.is in
    (refl, rw e at c.requires.1)

pub copy-requires-in-18 : goal.copy-requires-in-18
unfolding type_of
copy-requires-in-18 c = let e : c.args.w ≡ 1 = c.requires.0 ∙ rw c.in-18.is in
    (refl, rw e at c.requires.1)

pub copy-requires-in-19 : goal.copy-requires-in-19
unfolding type_of
copy-requires-in-19 c = let e : c.args.w ≡ 1 = c.requires.0 ∙ rw c.in-19.is in
    (refl, rw e at c.requires.1)

pub returns-in-1 : goal.returns-in-1
unfolding type_of
returns-in-1 c =
    let e : c.args.w ≡ 1 = c.requires.0 ∙ rw c.in-1.is in
    rw (c.in-1.is, e) c.copy.ensures

pub returns-in-2 : goal.returns-in-2
unfolding type_of
returns-in-2 c =
    let e : c.args.w ≡ 1 = c.requires.0 ∙ rw c.in-2.is in
    rw (c.in-2.is, e) c.copy-in-2.ensures

pub returns-in-3 : goal.returns-in-3
unfolding type_of
returns-in-3 c =
    let e : c.args.w ≡ 2 = c.requires.0 ∙ rw c.in-3.is in
    rw (c.in-3.is, e) c.copy-in-3.ensures

pub returns-in-4 : goal.returns-in-4
unfolding type_of
returns-in-4 c =
    let e : c.args.w ≡ 2 = c.requires.0 ∙ rw c.in-4.is in
    rw (c.in-4.is, e) c.copy-in-4.ensures

pub returns-in-5 : goal.returns-in-5
unfolding type_of
returns-in-5 c =
    let e : c.args.w ≡ 4 = c.requires.0 ∙ rw c.in-5.is in
    rw (c.in-5.is, e) c.copy-in-5.ensures

pub returns-in-18 : goal.returns-in-18
unfolding type_of
returns-in-18 c =
    let e : c.args.w ≡ 1 = c.requires.0 ∙ rw c.in-18.is in
    rw (c.in-18.is, e) c.copy-in-18.ensures

pub returns-in-19 : goal.returns-in-19
unfolding type_of
returns-in-19 c =
    let e : c.args.w ≡ 1 = c.requires.0 ∙ rw c.in-19.is in
    rw (c.in-19.is, e) c.copy-in-19.ensures
