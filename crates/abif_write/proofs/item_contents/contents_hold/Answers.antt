use Rattle.std.proofs.Common.{rules}
use native.Mathlib.Omega.{arith}
use Rattle.abif_write.specs.ItemContents.{is_date_at, is_time_at, contents_hold}
use Rattle.abif_write.proofs.item_contents.Laws.{contents_free}
use Rattle.abif_write.proofs.item_contents.contents_hold.Goals as goal

pub returns-in-10 : goal.returns-in-10
unfolding contents_hold
returns-in-10 c = rw c.in-10.is (c.each_holds.ensures (is_date_at c.args.bytes.now) (λ place r k p. search rules))

pub returns-in-11 : goal.returns-in-11
unfolding contents_hold
returns-in-11 c = rw c.in-11.is (c.each_holds-in-11.ensures (is_time_at c.args.bytes.now) (λ place r k p. search rules))

pub returns-in-18 : goal.returns-in-18
unfolding contents_hold
returns-in-18 c = rw c.in-18.is c.p_string_holds.ensures

pub returns-in-19 : goal.returns-in-19
unfolding contents_hold
returns-in-19 c = rw c.in-19.is c.c_string_holds.ensures

pub returns-in_default : goal.returns-in_default
returns-in_default c =
    let g = c.args in
    contents_free g.code g.count g.bytes.now (λ e. omega arith) (λ e. omega arith) (λ e. omega arith) (λ e. omega arith)
