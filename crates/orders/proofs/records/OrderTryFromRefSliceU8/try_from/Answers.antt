use Rattle.std.proofs.Common.{◌≡◌, sym, ap, ◌∙◌, subst, arith}
use Rattle.std.specs.Option.{ok_or}
use Rattle.automata.specs.declared.refusals.Refusal.TheVariants.{OutOfPlace}
use Rattle.orders.specs.Records.{Answer, Meaning, decoded}
use Rattle.orders.proofs.Decoding.{decoded_means}
use Rattle.orders.proofs.records.OrderTryFromRefSliceU8.try_from.Goals as goal

-- the meaning follows from the value
pub returns : goal.returns
returns c =
    let e : c.ok_or.result ≡ decoded c.args.bytes.now = c.ok_or.ensures.value ∙ ap (λ o. ok_or o OutOfPlace) c.asked_order.ensures in
    record {
      value = e;
      meaning = subst (λ (r : Answer). Meaning c.args.bytes.now r) (sym e) (decoded_means c.args.bytes.now (λ i. omega (arith, c.type_inv.bytes i)));
    }
