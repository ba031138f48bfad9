use Rattle.std.proofs.Common.{rules}
use Rattle.reading.proofs.Made.{from_fn_same}
use Rattle.bills.specs.Bill.{item_of}
use Rattle.bills.proofs.Sums.{none_above}
use Rattle.bills.proofs.bill.items.Goals as goal

pub returns : goal.returns
returns g c =
    let book = g.B.Book.meaning c.args.book.now in
    let reading = c.args.reading.now in
    let item = item_of book reading.entry in
    let all = from_fn_same c.from_fn.ensures.items item (λ line y closure below call. search rules) in
    record { value = all; most = none_above book reading.entry c.from_fn.result all (g.met.B.Book.lawful c.args.book.now) reading.within }
