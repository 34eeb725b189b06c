pub mod CallHandler
