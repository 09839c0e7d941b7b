pub mod SpanLaws
pub mod GoingLaws
