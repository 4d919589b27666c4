use Rattle.why.proofs.program.text_of.Goals as goal

pub returns-in-Ok-clause-report : goal.returns-in-Ok-clause-report
returns-in-Ok-clause-report c =
    let e = c.in-Ok.ensures in
    rw (c.in-Pixel.is, c.in-Ok.text-is) (record { there = e.there; pixel = _; shown = e.shown; histories = e.text.0; whole = e.text.1 })

pub returns-in-Ok-report_triangle-clause-report : goal.returns-in-Ok-report_triangle-clause-report
returns-in-Ok-report_triangle-clause-report c =
    let e = c.in-Ok-report_triangle.ensures in
    rw (c.in-Triangle.is, c.in-Ok-report_triangle.text-is) (record { counts = _; counted = e.counts; whole = e.text })
