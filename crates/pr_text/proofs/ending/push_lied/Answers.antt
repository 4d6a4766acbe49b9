use Rattle.pr_text.proofs.Loops.{begun_on, on_front}
use Rattle.pr_text.proofs.ending.push_lied.Goals as goal

pub returns-clause-ok : goal.returns-clause-ok
returns-clause-ok c =
    let r = c.push_hex-2.result in
    let t = c.push_hex-2.new.out in
    on_front r t c.push_about.new.text c.args.out.now _ _ c.in_ok-push_about.ensures.ok
    (on_front r t c.push_number.new.text c.push_about.new.text _ _ c.in_ok-push_number.ensures.ok
    (on_front r t c.extend.new.self c.push_number.new.text _ _ c.in_ok-extend.ensures.ok
    (on_front r t c.push_hex.new.out c.extend.new.self _ _ c.in_ok-push_hex.ensures.ok
    (on_front r t c.extend-2.new.self c.push_hex.new.out _ _ c.in_ok-extend-2.ensures.ok c.push_hex-2.ensures.ok))))

pub returns-clause-err : goal.returns-clause-err
returns-clause-err c =
    let r = c.push_hex-2.result in
    let t = c.push_hex-2.new.out in
    begun_on r t c.push_about.new.text c.args.out.now _ c.in_ok-push_about.ensures.ok
    (begun_on r t c.push_number.new.text c.push_about.new.text _ c.in_ok-push_number.ensures.ok
    (begun_on r t c.extend.new.self c.push_number.new.text _ c.in_ok-extend.ensures.ok
    (begun_on r t c.push_hex.new.out c.extend.new.self _ c.in_ok-push_hex.ensures.ok
    (begun_on r t c.extend-2.new.self c.push_hex.new.out _ c.in_ok-extend-2.ensures.ok c.push_hex-2.ensures.err))))
