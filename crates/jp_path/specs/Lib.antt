pub mod PathQuery
