use Rattle.std.proofs.Common.{◌≡◌, ◌+◌, ◌-◌, ◌∷◌, ◌++◌, length, drop, set, refl, ap, ◌∙◌, arith}
use borrow.Rule.Slice.PartMut.{put_mid}
use Rattle.frame.proofs.Assembly.{body_front, frame_front}
use Rattle.frame.proofs.frame.write.put_frame.Goals as goal

pub returns : goal.returns
returns c =
    let bs = c.args.bytes.now in
    let payload = c.args.payload.now in
    let n = length payload in
    let front : put_mid 2 (n + 2 - 2) (set (set bs 0 c.args.kind) 1 n) c.copy_from_slice.new.self ≡ (c.args.kind ∷ n ∷ payload) ++ drop (n + 2) bs =
    ap (put_mid 2 (n + 2 - 2) (set (set bs 0 c.args.kind) 1 n)) c.copy_from_slice.ensures.after
    ∙ body_front bs payload c.args.kind n refl (omega arith) in
    frame_front bs _ payload c.args.kind n c.check_of.result refl (omega arith) front c.check_of.ensures
